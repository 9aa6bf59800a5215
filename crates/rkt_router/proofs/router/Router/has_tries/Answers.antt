use Rattle.std.proofs.Common.{subst}
use Rattle.std.specs.Iterator.{Yields}
use Rattle.rkt_router.specs.Walk.{SeenTries, TriesOn}
use Rattle.rkt_router.proofs.router.Router.has_tries.Goals as goal

pub returns : goal.returns
returns g c =
    let yields = subst (λ (walk : SeenTries g.row.H.Denot g.row.S.Denot g.row.T-Value.Denot). Yields TriesOn walk c.loop.yielded c.loop.iterator')
    c.into_iter-iterator.ensures.into_iter_gives c.loop.yielded_by in
    (_, c.route-items.ensures.tries c.loop.yielded (c.next.new.self, (c.loop.iterator', yields, rw c.in-None.is at c.next.ensures.steps)))
