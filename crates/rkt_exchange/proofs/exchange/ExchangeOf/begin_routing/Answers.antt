use Rattle.std.proofs.Common.{◌∙◌, ap}
use Rattle.rkt_routing.specs.Routed.{is_head}
use Rattle.rkt_exchange.proofs.Exchanging.{routing_begins}
use Rattle.rkt_exchange.specs.Asks.{asked_at}
use Rattle.rkt_exchange.specs.Relations.{relations_of}
use Rattle.rkt_exchange.specs.Tables.{table_of}
use Rattle.rkt_exchange.proofs.exchange.ExchangeOf.begin_routing.Goals as goal

pub returns : goal.returns
returns g c = λ rule first fits was.
    c.find.ensures rule first fits
    (routing_begins (relations_of g.T.Source.Source.meaning g.P.RequestCallback.calling g.Q.ResponseCallback.calling g.H.Handler.calling g.K.CatchHandler.calling rule) first c.args.self.now.tables c.new-routing.result c.args.arrival.live.calls c.is_head-head.result (asked_at c.args.arrival) was
    (c.is_head-head.ensures ∙ ap is_head c.method.ensures) (c.new-routing.ensures.table ∙ ap table_of c.tables.view_is ∙ ap (λ e. table_of e.tables) c.self.view_is) (c.new-routing.ensures.stands rule))
