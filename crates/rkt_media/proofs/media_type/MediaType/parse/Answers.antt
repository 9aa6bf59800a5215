use Rattle.std.proofs.Common.{sym, subst}
use Rattle.rkt_media.specs.MediaText.{SpellsMedia}
use Rattle.rkt_media.proofs.media_type.MediaType.parse.Goals as goal

pub returns-in_ok-read-in-None-clause-accepted : goal.returns-in_ok-read-in-None-clause-accepted
returns-in_ok-read-in-None-clause-accepted c =
    let media = c.in-None.ensures.none in
    subst (SpellsMedia c.args.text.now) (sym (c.in_ok-read-in-None.ensures media.0 media.1)) media.1
