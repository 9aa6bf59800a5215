use Rattle.rkt_request.proofs.OneFormat.{one_format}
use Rattle.rkt_ignition.proofs.Meeting.{ranks_do_differ}
use Rattle.rkt_ignition.proofs.laws.ranks_differ.Goals as goal

pub returns : goal.returns
returns g c =
    let one = c.spells_one_media_type.ensures in
    λ request. ranks_do_differ c.args._router.now.routes request c.requires.free.routes (one_format one.media one.accept one.preferred request)
