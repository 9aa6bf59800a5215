use Rattle.rkt_request.proofs.OneFormat.{one_format}
use Rattle.rkt_request.proofs.format_law.has_one_format.Goals as goal

pub returns : goal.returns
returns g c = one_format c.spells_one_media_type.ensures.media c.spells_one_media_type.ensures.accept c.spells_one_media_type.ensures.preferred c.args._request.now
