use Rattle.rkt_router.proofs.OneList.{one_tries}
use Rattle.rkt_router.proofs.tries.tries_are_one_list.Goals as goal

pub returns : goal.returns
returns g c = one_tries c.args.routes.now c.args.request.now
