use Rattle.rkt_router.proofs.Alike.{next_alike, tries_alike}
use Rattle.rkt_router.proofs.tries.tries_are_alike.Goals as goal

pub returns-clause-next : goal.returns-clause-next
returns-clause-next g c = next_alike c.args.routes.now

pub returns-clause-tries : goal.returns-clause-tries
returns-clause-tries g c = tries_alike c.args.routes.now
