use Rattle.rkt_router.proofs.NextTries.{nexts_are_front, nexts_are_tries}
use Rattle.rkt_router.proofs.tries.next_tries_are_tries.Goals as goal

pub returns-clause-all : goal.returns-clause-all
returns-clause-all g c = nexts_are_tries c.args.routes.now c.args.request.now

pub returns-clause-front : goal.returns-clause-front
returns-clause-front g c = nexts_are_front c.args.routes.now c.args.request.now
