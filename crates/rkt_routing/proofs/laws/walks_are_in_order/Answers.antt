use Rattle.rkt_routing.specs.Relations.{relations}
use Rattle.rkt_routing.proofs.InOrder.{all_in_order}
use Rattle.rkt_routing.proofs.laws.walks_are_in_order.Goals as goal

pub returns : goal.returns
returns g c = λ rule. all_in_order (relations g.H.Handler.calling g.K.CatchHandler.calling rule) c.args._table.now
