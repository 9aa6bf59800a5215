use Rattle.std.proofs.Common.{◌∙◌, ap}
use Rattle.rkt_exchange.proofs.Exchanging.{asking_begins}
use Rattle.rkt_exchange.specs.Relations.{relations_of}
use Rattle.rkt_exchange.specs.Invariant.{opened_at}
use Rattle.rkt_exchange.proofs.exchange.ExchangeOf.begin_asking.Goals as goal

pub returns : goal.returns
returns g c = λ rule first fits was.
    c.ask.ensures rule first fits
    (asking_begins (relations_of g.T.Source.Source.meaning g.P.RequestCallback.calling g.Q.ResponseCallback.calling g.H.Handler.calling g.K.CatchHandler.calling rule) first c.args.self.now.tables c.new-asking.result (opened_at c.args.opened) was
    (c.new-asking.ensures.fairings ∙ ap (λ t. t.fairings) c.tables.view_is ∙ ap (λ e. e.tables.fairings) c.self.view_is) (c.new-asking.ensures.turns ∙ ap (λ t. t.config.turns) c.tables.view_is ∙ ap (λ e. e.tables.config.turns) c.self.view_is)
    (c.new-asking.ensures.stands rule))
