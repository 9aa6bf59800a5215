use Rattle.std.proofs.Common.{refl}
use Rattle.std.proofs.lemmas.Option.{slice_get_read}
use Rattle.rkt_router.proofs.Choices.{outranks_decided}
use Rattle.rkt_router.proofs.chosen.beats_best.Goals as goal

pub returns-in-Some : goal.returns-in-Some
returns-in-Some g c =
    rw c.in-Some.is (outranks_decided c.args.catchers.now c.args.position c.in-Some.best c.index-catchers-position.result c.index-catchers-best.result c.outranks.result
    (slice_get_read _ _ _ _ refl c.requires.position c.index-catchers-position.is) (slice_get_read _ _ _ _ refl (rw c.in-Some.is at c.requires.best) c.index-catchers-best.is)
    c.outranks.ensures)
