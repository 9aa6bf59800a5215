use Rattle.std.proofs.Common.{◌≡◌, ◌<◌, ◌≤◌, ℕ, List, Option, false, refl, ap, sym, subst, ◌∙◌}
use Rattle.std.specs.List.{list_any}
use Rattle.rkt_turn.specs.Known.{last_number}
use Rattle.rkt_turn.specs.Pass.{known}
use Rattle.rkt_link.specs.Clock.{IsWithin}
use Rattle.rkt_board.specs.Board.{Keeps}
use Rattle.rkt_board.specs.Events.{is_close, latest, trip_of}
use Rattle.rkt_board.specs.Records.{events}
use Rattle.rkt_board.specs.Turns.{gate_with, ShowsTrip, TripsAs}
use Rattle.rkt_board.specs.declared.log_record.RecordOf.{RecordOf}
use Rattle.rkt_seat.proofs.Seating.{AddsQuietly, adds_of, mine_trips, of_name, seen_on, serving_on, took_turn, trip_adds}
use Rattle.rkt_seat.proofs.seat.look.Goals as goal

pub look_at-looked-requires-clause-keeps : goal.look_at-looked-requires-clause-keeps
look_at-looked-requires-clause-keeps g c = subst (Keeps g.L.Link.Link.meaning g.L.Listener.meaning g.C.Clock.meaning g.P.Served.cause) (sym c.state.ensures.value) c.enter-guard.ensures.keeps.keeps

pub look_at-looked-requires-clause-unclosed : goal.look_at-looked-requires-clause-unclosed
look_at-looked-requires-clause-unclosed g c = subst (λ b. list_any is_close (events b.log.records.items) ≡ false) (sym c.state.ensures.value) c.enter-guard.ensures.keeps.unclosed

pub leave-requires-clause-keeps : goal.leave-requires-clause-keeps
leave-requires-clause-keeps g c =
    serving_on c.number-by.result c.enter-guard.result.state c.look_at-looked.new.board c.enter-guard.ensures.keeps c.look_at-looked.ensures.keeps
    (subst (λ (n : ℕ). n < last_number) (sym c.number-by.ensures.number) c.requires.seat.2)
    (subst (λ (ms : List (RecordOf _ _ _)). AddsQuietly c.number-by.result ms c.look_at-looked.new.board.log.records.items) (ap (λ b. b.log.records.items) c.state.ensures.value) (trip_adds c.number-by.result _ _ c.look_at-looked.ensures.adds))

pub leave-requires-clause-legal : goal.leave-requires-clause-legal
leave-requires-clause-legal g c = c.look_at-looked.ensures.keeps.legal

pub leave-requires-clause-adds : goal.leave-requires-clause-adds
leave-requires-clause-adds g c =
    adds_of _ c.number-by.result _ _ _ (ap (λ v. v.number) c.enter-guard.ensures.view ∙ sym c.number-by.ensures.number)
    (ap (λ v. v.base) c.enter-guard.ensures.view ∙ ap (λ b. b.log.records.items) (sym c.state.ensures.value)) (trip_adds c.number-by.result _ _ c.look_at-looked.ensures.adds)

pub returns-clause-took : goal.returns-clause-took
returns-clause-took g c =
    took_turn c.args.lock.now c.args.pass.now c.enter-guard.new.pass c.leave.new.pass _ _ c.requires.seat c.enter-guard.ensures.own c.enter-guard.ensures.view c.leave.ensures.own c.leave.ensures.view c.leave.ensures.place
    (seen_on c.number-by.result _ _ _ _ (trip_adds c.number-by.result _ _ c.look_at-looked.ensures.adds) (ap (λ b. b.log.records.items) (sym c.state.ensures.value)) c.enter-guard.ensures.seen)

pub returns-clause-mine : goal.returns-clause-mine
returns-clause-mine g c =
    let p = known c.args.pass.now in
    subst (λ es. TripsAs p.number es (known c.leave.new.pass).mine) (ap (λ v. v.mine) c.enter-guard.ensures.view)
    (mine_trips (known c.enter-guard.new.pass) (known c.leave.new.pass) p.number c.number-by.result _ _ c.leave.ensures.added (sym c.number-by.ensures.number)
    (ap (λ v. v.base) c.enter-guard.ensures.view ∙ ap (λ b. b.log.records.items) (sym c.state.ensures.value)) c.look_at-looked.ensures.adds)

pub returns-clause-gate : goal.returns-clause-gate
returns-clause-gate g c =
    let r = known c.leave.new.pass in
    let found = c.enter-guard.result.state in
    let last = c.look_at-looked.new.board in
    let looked = c.look_at-looked.ensures in
    let gate = c.look_at-looked.result.gate in
    let name = c.leave.ensures.place.0 ∙ ap (λ v. v.name) c.enter-guard.ensures.view ∙ c.enter-guard.ensures.name in
    of_name r.name found.name found.name (λ n. gate ≡ gate_with gate.moment gate.tripped (g.P.Delays.grace n.served) (g.P.Delays.mercy n.served)) name refl
    (subst (λ b. gate ≡ gate_with gate.moment gate.tripped (g.P.Delays.grace b.name.served) (g.P.Delays.mercy b.name.served)) c.state.ensures.value looked.gate)

pub returns-clause-looked : goal.returns-clause-looked
returns-clause-looked g c =
    let r = known c.leave.new.pass in
    let found = c.enter-guard.result.state in
    let last = c.look_at-looked.new.board in
    let looked = c.look_at-looked.ensures in
    let seen = sym (ap (λ v. v.seen) c.leave.ensures.view) in
    let name = c.leave.ensures.place.0 ∙ ap (λ v. v.name) c.enter-guard.ensures.view ∙ c.enter-guard.ensures.name in
    let same_name : last.name ≡ found.name = looked.name ∙ ap (λ b. b.name) c.state.ensures.value in
    record {
      within = of_name r.name found.name last.name (λ n. IsWithin (g.C.Clock.meaning n.clock.value).window c.look_at-looked.result.gate.moment) name same_name
          (subst (λ n. IsWithin (g.C.Clock.meaning n.clock.value).window c.look_at-looked.result.gate.moment) (sym same_name)
          (subst (λ (w : Option (ℕ × ℕ)). IsWithin w c.look_at-looked.result.gate.moment) c.enter-guard.ensures.keeps.keeps.holds.clock.window
          (subst (λ b. IsWithin (g.C.Clock.meaning b.outside.clock).window c.look_at-looked.result.gate.moment) c.state.ensures.value looked.within)));
      late = subst (λ (ms : List (RecordOf _ _ _)). latest (events ms) ≤ c.look_at-looked.result.gate.moment) seen looked.latest;
      word = subst (λ (ms : List (RecordOf _ _ _)). ShowsTrip c.look_at-looked.result.gate.tripped (events ms)) seen looked.word;
      trip_is = subst (λ (ms : List (RecordOf _ _ _)). c.look_at-looked.result.trip ≡ trip_of (events ms)) seen looked.trip;
    }
