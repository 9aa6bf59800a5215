use Rattle.std.proofs.Common.{◌≡◌, ◌<◌, ◌≤◌, ◌+◌, ◌∙◌, ℕ, Option, Some, true, ap, sym, subst}
use Rattle.std.specs.Prelude.{IfSome}
use Rattle.std.specs.List.{list_any}
use Rattle.rkt_board.specs.Events.{admitted, is_trip}
use Rattle.rkt_worker.specs.Headline.{IsLegal}
use Rattle.rkt_worker.specs.Serving.{launching, serving}
use Rattle.rkt_worker.proofs.Closing.{legal_of}
use Rattle.rkt_worker.proofs.Resting.{rest_lift}
use Rattle.rkt_worker.proofs.caller.serve_to_close.Goals as goal

pub work-back-requires-clause-rest : goal.work-back-requires-clause-rest
work-back-requires-clause-rest g c = rest_lift _ _ c.args.calls c.lift-board.ensures.adds

pub finish-closed-requires-clause-fresh : goal.finish-closed-requires-clause-fresh
finish-closed-requires-clause-fresh g c given is =
    let name = c.bring_to_close.ensures.name ∙ (c.bring_down.ensures.name ∙ c.work-back.ensures.name) in
    let listener = ap (λ n. n.listener.value) name ∙ c.lift-board.ensures.name.1 in
    c.requires.fresh.none_given given (subst (λ l. (g.L.Listener.meaning l).given ≡ Some given) listener is)

pub returns-clause-legal : goal.returns-clause-legal
returns-clause-legal g c =
    let name = c.bring_to_close.ensures.name ∙ (c.bring_down.ensures.name ∙ c.work-back.ensures.name) in
    let clock = ap (λ n. n.clock.value) name ∙ c.lift-board.ensures.name.2 in
    let tables = ap (λ n. n.served.tables.value) name ∙ (ap (λ b. b.tables.value) c.lift-board.ensures.name.0 ∙ c.lend.ensures.tables) in
    let over = c.finish-closed.ensures in
    let given = (g.L.Listener.meaning c.finish-closed.result.listener).given in
    let events = c.finish-closed.result.history.events in
    let launches = λ (w : Option (ℕ × ℕ)). launching g.A.Reason.Reason.allowed g.A.Fairing.Shuts.ShutdownCallback.calling
    (serving g.A-Fairing-Requests-RequestCallback.calling g.A.Fairing.Responses.ResponseCallback.calling g.A-Handler-Handler.calling g.A.Catch.CatchHandler.calling g.A.Source.Source.meaning g.A.Stream.Source.meaning g.L.Link.Link.meaning w) in
    subst (λ q. IsLegal (launches (g.C.Clock.meaning q).window) c.args.tables.now given events) clock
    (subst (λ ts. IsLegal (launches (g.C.Clock.meaning c.bring_to_close.new.board.name.clock.value).window) ts given events) tables
    (legal_of (launches (g.C.Clock.meaning c.bring_to_close.new.board.name.clock.value).window) c.bring_to_close.new.board.name.served.tables.value given events _
    over.ordered over.closed over.caused over.ends over.entries over.requests over.moments c.bring_to_close.ensures.callers over.history))

pub returns-clause-still : goal.returns-clause-still
returns-clause-still g c some =
    let name = c.bring_to_close.ensures.name ∙ (c.bring_down.ensures.name ∙ c.work-back.ensures.name) in
    let handle = ap (λ n. n.handle.value) name ∙ c.lift-board.ensures.name.3 in
    c.finish-closed.ensures.still (subst (λ h. 0 < h.seen) (sym handle) some)

pub returns-clause-offers : goal.returns-clause-offers
returns-clause-offers g c over all is =
    let name = c.bring_to_close.ensures.name ∙ (c.bring_down.ensures.name ∙ c.work-back.ensures.name) in
    let listener = ap (λ n. n.listener.value) name ∙ c.lift-board.ensures.name.1 in
    c.finish-closed.ensures.offers over all (subst (λ l. (g.L.Listener.meaning l).offers ≡ Some all) (sym listener) is)

pub returns-clause-goes_on : goal.returns-clause-goes_on
returns-clause-goes_on g c none =
    let name = c.bring_to_close.ensures.name ∙ (c.bring_down.ensures.name ∙ c.work-back.ensures.name) in
    let listener = ap (λ n. n.listener.value) name ∙ c.lift-board.ensures.name.1 in
    c.finish-closed.ensures.goes_on none ∙ (ap (λ l. (g.L.Listener.meaning l).ended) listener ∙ c.requires.fresh.goes_on)

pub returns-clause-lifted : goal.returns-clause-lifted
returns-clause-lifted g c =
    let name = c.bring_to_close.ensures.name ∙ (c.bring_down.ensures.name ∙ c.work-back.ensures.name) in
    c.finish-closed.ensures.lifted ∙ (ap (λ n. n.calls.value) name ∙ c.lift-board.ensures.name.4)

pub returns-clause-looked : goal.returns-clause-looked
returns-clause-looked g c =
    let name = c.bring_to_close.ensures.name ∙ (c.bring_down.ensures.name ∙ c.work-back.ensures.name) in
    let handle = ap (λ n. n.handle.value) name ∙ c.lift-board.ensures.name.3 in
    subst (λ h. h.looked + admitted c.finish-closed.result.history.events ≤ c.finish-closed.result.handle.looked) handle c.finish-closed.ensures.looked

pub returns-clause-tripped : goal.returns-clause-tripped
returns-clause-tripped g c some =
    let over = c.finish-closed.ensures in
    let handle = over.outside.2 ∙ (c.bring_to_close.ensures.handle ∙ c.bring_down.ensures.handle) in
    let trips = ap (list_any is_trip) over.history ∙ (c.bring_to_close.ensures.trips ∙ c.bring_down.ensures.trips) in
    trips ∙ c.work-back.ensures.tripped (subst (λ h. 0 < h.seen) handle some)

pub returns-clause-lent_tripped : goal.returns-clause-lent_tripped
returns-clause-lent_tripped g c first =
    let over = c.finish-closed.ensures in
    let trips = ap (list_any is_trip) over.history ∙ (c.bring_to_close.ensures.trips ∙ c.bring_down.ensures.trips) in
    subst (λ t. IfSome c.work-back.result (λ back. 0 < back.seen → t ≡ true)) (sym trips) (c.work-back.ensures.lent (λ some. subst (λ h. 0 < h.seen) (sym c.lift-board.ensures.handle) (first some)))
