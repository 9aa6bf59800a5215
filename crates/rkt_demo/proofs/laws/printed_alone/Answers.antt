use Rattle.rkt_demo.proofs.SectionsOnce.{alone_print}
use Rattle.rkt_demo.proofs.laws.printed_alone.Goals as goal

pub returns : goal.returns
returns c = alone_print (record { origins = c.says_what_it_spells.ensures; hosts = c.spells_one_host.ensures; media = c.spells_one_media_type.ensures.media; accept = c.spells_one_media_type.ensures.accept; preferred = c.spells_one_media_type.ensures.preferred })
