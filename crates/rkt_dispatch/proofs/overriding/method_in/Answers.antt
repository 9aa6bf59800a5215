use Rattle.rkt_dispatch.proofs.SetMethods.{none_in, set_in}
use Rattle.rkt_dispatch.proofs.overriding.method_in.Goals as goal

pub returns-in-Ok : goal.returns-in-Ok
returns-in-Ok c = let text = c.in-Ok.ensures.cases in set_in c.args.front.now c.set_first.result c.if-front.false text.1 (rw text.0 at c.set_first.ensures)

pub returns-in-Err : goal.returns-in-Err
returns-in-Err c = none_in c.args.front.now c.in-Err.ensures.cases.0
