use Rattle.std.proofs.Common.{◌∙◌, ap, refl, subst}
use Rattle.rkt_fairing.specs.InSlot.{slot_response}
use Rattle.rkt_exchange.proofs.Exchanging.{answering_begins, found_back, found_routed}
use Rattle.rkt_exchange.specs.Answers.{InvariantFor as AnswersStandFor}
use Rattle.rkt_exchange.specs.Finalized.{finalized}
use Rattle.rkt_exchange.specs.Invariant.{found_of}
use Rattle.rkt_exchange.specs.Relations.{relations_of}
use Rattle.rkt_exchange.proofs.exchange.ExchangeOf.begin_answering.Goals as goal

pub returns-in-Ok : goal.returns-in-Ok
returns-in-Ok g c = λ rule first fits was.
    let out = finalized c.args.self.now.tables.config.ident c.args.gate.moment (found_of c.args.live c.args.response) in
    c.answer.ensures rule first fits
    (answering_begins (relations_of g.T.Source.Source.meaning g.P.RequestCallback.calling g.Q.ResponseCallback.calling g.H.Handler.calling g.K.CatchHandler.calling rule) first c.args.self.now.tables c.new-answering.result c.in-Ok.calls c.args.head c.args.gate.moment out
    (found_routed (relations_of g.T.Source.Source.meaning g.P.RequestCallback.calling g.Q.ResponseCallback.calling g.H.Handler.calling g.K.CatchHandler.calling rule) first c.args.self.now.tables c.args.calls c.in-Ok.calls c.args.head c.args.gate.moment c.args.live c.args.response out c.in-Ok.ensures.calls (c.args.gate, fits, refl) refl was)
    (c.new-answering.ensures.fairings ∙ ap (λ t. t.fairings) c.tables.view_is ∙ ap (λ e. e.tables.fairings) c.self.view_is) (c.new-answering.ensures.turns ∙ ap (λ t. t.config.turns) c.tables.view_is ∙ ap (λ e. e.tables.config.turns) c.self.view_is)
    (subst (λ o. AnswersStandFor (slot_response g.Q.ResponseCallback.calling) rule o c.new-answering.result)
    (c.in-Ok.ensures.finalized ∙ ap (λ i. finalized i c.args.gate.moment (found_of c.args.live c.args.response)) (c.as_str-ident.ensures ∙ ap (λ t. t.config.ident) c.tables.view_is ∙ ap (λ e. e.tables.config.ident) c.self.view_is)) (c.new-answering.ensures.stands rule)))

pub returns : goal.returns
returns g c = λ rule first fits was.
    rw (c.starved.ensures, c.without_request.ensures.ctx, c.in-Err.ensures.shutdown) (found_back (relations_of g.T.Source.Source.meaning g.P.RequestCallback.calling g.Q.ResponseCallback.calling g.H.Handler.calling g.K.CatchHandler.calling rule) first c.args.self.now.tables c.args.calls c.args.head c.args.live c.args.response was)
