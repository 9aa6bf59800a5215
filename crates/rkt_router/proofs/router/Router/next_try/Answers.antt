use Rattle.rkt_router.proofs.Lefts.{next_falls, next_within}
use Rattle.rkt_router.proofs.router.Router.next_try.Goals as goal

pub returns-clause-within : goal.returns-clause-within
returns-clause-within g c = rw (← c.self.view_is, ← c.as_slice.ensures) (next_within c.as_slice.result.now c.args.request.now c.args.after c.next_try.result c.next_try.ensures)

pub returns-clause-falls : goal.returns-clause-falls
returns-clause-falls g c = rw (← c.self.view_is, ← c.as_slice.ensures) (next_falls c.as_slice.result.now c.args.request.now c.args.after c.next_try.result c.next_try.ensures)
