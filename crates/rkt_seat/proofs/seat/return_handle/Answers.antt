use Rattle.std.proofs.Common.{◌≡◌, ◌<◌, ℕ, List, Some, false, ap, sym, subst, ◌∙◌}
use Rattle.std.specs.List.{list_any}
use Rattle.rkt_turn.specs.Known.{last_number}
use Rattle.rkt_turn.specs.Pass.{known}
use Rattle.rkt_board.specs.Board.{Keeps}
use Rattle.rkt_board.specs.Events.{is_close}
use Rattle.rkt_board.specs.Records.{events}
use Rattle.rkt_board.specs.Turns.{ShowsTrip, TripsAs}
use Rattle.rkt_board.specs.declared.log_record.RecordOf.{RecordOf}
use Rattle.rkt_seat.proofs.Seating.{AddsQuietly, adds_of, mine_trips, seen_on, serving_on, took_turn, trip_adds}
use Rattle.rkt_seat.proofs.seat.return_handle.Goals as goal

pub return_handle-requires-clause-keeps : goal.return_handle-requires-clause-keeps
return_handle-requires-clause-keeps g c = subst (Keeps g.L.Link.Link.meaning g.L.Listener.meaning g.C.Clock.meaning g.P.Served.cause) (sym c.state.ensures.value) c.enter-guard.ensures.keeps.keeps

pub return_handle-requires-clause-unclosed : goal.return_handle-requires-clause-unclosed
return_handle-requires-clause-unclosed g c = subst (λ b. list_any is_close (events b.log.records.items) ≡ false) (sym c.state.ensures.value) c.enter-guard.ensures.keeps.unclosed

pub return_handle-requires-clause-wire : goal.return_handle-requires-clause-wire
return_handle-requires-clause-wire g c = subst (λ b. c.args.handle.wire ≡ b.name.handle.value.wire) (sym c.state.ensures.value) (c.requires.wire _ c.enter-guard.ensures.name)

pub leave-requires-clause-keeps : goal.leave-requires-clause-keeps
leave-requires-clause-keeps g c =
    serving_on c.number-by.result c.enter-guard.result.state c.return_handle.new.board c.enter-guard.ensures.keeps c.return_handle.ensures.keeps
    (subst (λ (n : ℕ). n < last_number) (sym c.number-by.ensures.number) c.requires.seat.2)
    (subst (λ (ms : List (RecordOf _ _ _)). AddsQuietly c.number-by.result ms c.return_handle.new.board.log.records.items) (ap (λ b. b.log.records.items) c.state.ensures.value) (trip_adds c.number-by.result _ _ c.return_handle.ensures.adds))

pub leave-requires-clause-legal : goal.leave-requires-clause-legal
leave-requires-clause-legal g c = c.return_handle.ensures.keeps.legal

pub leave-requires-clause-adds : goal.leave-requires-clause-adds
leave-requires-clause-adds g c =
    adds_of _ c.number-by.result _ _ _ (ap (λ v. v.number) c.enter-guard.ensures.view ∙ sym c.number-by.ensures.number)
    (ap (λ v. v.base) c.enter-guard.ensures.view ∙ ap (λ b. b.log.records.items) (sym c.state.ensures.value)) (trip_adds c.number-by.result _ _ c.return_handle.ensures.adds)

pub returns-clause-took : goal.returns-clause-took
returns-clause-took g c =
    took_turn c.args.lock.now c.args.pass.now c.enter-guard.new.pass c.leave.new.pass _ _ c.requires.seat c.enter-guard.ensures.own c.enter-guard.ensures.view c.leave.ensures.own c.leave.ensures.view c.leave.ensures.place
    (seen_on c.number-by.result _ _ _ _ (trip_adds c.number-by.result _ _ c.return_handle.ensures.adds) (ap (λ b. b.log.records.items) (sym c.state.ensures.value)) c.enter-guard.ensures.seen)

pub returns-clause-mine : goal.returns-clause-mine
returns-clause-mine g c =
    let p = known c.args.pass.now in
    subst (λ es. TripsAs p.number es (known c.leave.new.pass).mine) (ap (λ v. v.mine) c.enter-guard.ensures.view)
    (mine_trips (known c.enter-guard.new.pass) (known c.leave.new.pass) p.number c.number-by.result _ _ c.leave.ensures.added (sym c.number-by.ensures.number)
    (ap (λ v. v.base) c.enter-guard.ensures.view ∙ ap (λ b. b.log.records.items) (sym c.state.ensures.value)) c.return_handle.ensures.adds)

pub returns-clause-trip : goal.returns-clause-trip
returns-clause-trip g c = subst (λ (ms : List (RecordOf _ _ _)). ShowsTrip (Some c.args.handle.seen) (events ms)) (sym (ap (λ v. v.seen) c.leave.ensures.view)) c.return_handle.ensures.trip
