use Rattle.rkt_media.proofs.SpelledOnce.{spells_one_media, spells_one_accept, prefers_one}
use Rattle.rkt_media.proofs.media_law.spells_one_media_type.Goals as goal

pub returns-clause-media : goal.returns-clause-media
returns-clause-media c = spells_one_media

pub returns-clause-accept : goal.returns-clause-accept
returns-clause-accept c = spells_one_accept

pub returns-clause-preferred : goal.returns-clause-preferred
returns-clause-preferred c = prefers_one
