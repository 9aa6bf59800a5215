use Rattle.std.proofs.Common.{◌≡◌, ◌<◌, ℕ, List, refl, ap, sym, subst, ◌∙◌}
use Rattle.std.specs.List.{AllByRecursion}
use Rattle.rkt_turn.specs.Booked.{of}
use Rattle.rkt_turn.specs.Known.{last_number}
use Rattle.rkt_turn.specs.Pass.{known}
use Rattle.rkt_link.specs.Clock.{IsWithin}
use Rattle.rkt_board.specs.Board.{Keeps, TimedIn}
use Rattle.rkt_board.specs.Records.{events}
use Rattle.rkt_board.specs.Turns.{SteppedAs}
use Rattle.rkt_board.specs.declared.log_record.RecordOf.{RecordOf}
use Rattle.rkt_seat.proofs.Seating.{AddsQuietly, adds_of, admit_timed, given_to, mine_stepped, of_name, seen_on, serving_on, stepped_adds, took_turn}
use Rattle.rkt_seat.proofs.seat.step.Goals as goal

pub turn-stepped-requires : goal.turn-stepped-requires
turn-stepped-requires g c = record { keeps = subst (Keeps g.L.Link.Link.meaning g.L.Listener.meaning g.C.Clock.meaning g.P.Served.cause) (sym c.state.ensures.value) c.enter-guard.ensures.keeps.keeps }

pub leave-requires-clause-keeps : goal.leave-requires-clause-keeps
leave-requires-clause-keeps g c =
    serving_on c.number-by.result c.enter-guard.result.state c.turn-stepped.new.board c.enter-guard.ensures.keeps c.turn-stepped.ensures.keeps
    (subst (λ (n : ℕ). n < last_number) (sym c.number-by.ensures.number) c.requires.seat.2)
    (subst (λ (ms : List (RecordOf _ _ _)). AddsQuietly c.number-by.result ms c.turn-stepped.new.board.log.records.items) (ap (λ b. b.log.records.items) c.state.ensures.value) (stepped_adds c.number-by.result _ _ c.turn-stepped.result c.turn-stepped.ensures.turned))

pub leave-requires-clause-legal : goal.leave-requires-clause-legal
leave-requires-clause-legal g c = c.turn-stepped.ensures.keeps.legal

pub leave-requires-clause-adds : goal.leave-requires-clause-adds
leave-requires-clause-adds g c =
    adds_of _ c.number-by.result _ _ _ (ap (λ v. v.number) c.enter-guard.ensures.view ∙ sym c.number-by.ensures.number)
    (ap (λ v. v.base) c.enter-guard.ensures.view ∙ ap (λ b. b.log.records.items) (sym c.state.ensures.value)) (stepped_adds c.number-by.result _ _ c.turn-stepped.result c.turn-stepped.ensures.turned)

pub returns-clause-took : goal.returns-clause-took
returns-clause-took g c =
    took_turn c.args.lock.now c.args.pass.now c.enter-guard.new.pass c.leave.new.pass _ _ c.requires.seat c.enter-guard.ensures.own c.enter-guard.ensures.view c.leave.ensures.own c.leave.ensures.view c.leave.ensures.place
    (seen_on c.number-by.result _ _ _ _ (stepped_adds c.number-by.result _ _ c.turn-stepped.result c.turn-stepped.ensures.turned) (ap (λ b. b.log.records.items) (sym c.state.ensures.value)) c.enter-guard.ensures.seen)

pub returns-clause-mine : goal.returns-clause-mine
returns-clause-mine g c =
    let p = known c.args.pass.now in
    subst (λ es. SteppedAs p.number es (known c.leave.new.pass).mine c.turn-stepped.result) (ap (λ v. v.mine) c.enter-guard.ensures.view)
    (mine_stepped (known c.enter-guard.new.pass) (known c.leave.new.pass) p.number c.number-by.result _ _ c.turn-stepped.result c.leave.ensures.added (sym c.number-by.ensures.number)
    (ap (λ v. v.base) c.enter-guard.ensures.view ∙ ap (λ b. b.log.records.items) (sym c.state.ensures.value)) c.turn-stepped.ensures.turned)

pub returns-clause-given : goal.returns-clause-given
returns-clause-given g c =
    let p = known c.args.pass.now in
    let r = known c.leave.new.pass in
    let found = c.enter-guard.result.state in
    let last = c.turn-stepped.new.board in
    let by = c.number-by.result in
    let number : r.number ≡ p.number = c.leave.ensures.place.1 ∙ ap (λ v. v.number) c.enter-guard.ensures.view in
    let name = c.leave.ensures.place.0 ∙ ap (λ v. v.name) c.enter-guard.ensures.view ∙ c.enter-guard.ensures.name in
    let same_name : last.name ≡ found.name = c.turn-stepped.ensures.name ∙ ap (λ b. b.name) c.state.ensures.value in
    let mine = subst (λ es. SteppedAs by es r.mine c.turn-stepped.result) (ap (λ v. v.mine) c.enter-guard.ensures.view)
    (mine_stepped (known c.enter-guard.new.pass) r by by _ _ c.turn-stepped.result c.leave.ensures.added refl
    (ap (λ v. v.base) c.enter-guard.ensures.view ∙ ap (λ b. b.log.records.items) (sym c.state.ensures.value)) c.turn-stepped.ensures.turned) in
    given_to g.L.Link.Link.meaning g.C.Clock.meaning r found.log.records.items last.log.records.items p.mine by _ c.turn-stepped.result
    (ap (λ v. v.seen) c.leave.ensures.view) (number ∙ sym c.number-by.ensures.number)
    (subst (λ (k : ℕ). of (λ (m : RecordOf _ _ _). m.by) k found.log.records.items ≡ p.mine) (sym c.number-by.ensures.number) (c.enter-guard.ensures.mine c.requires.seat.2))
    (subst (λ b. SteppedAs by b.log.records.items last.log.records.items c.turn-stepped.result) c.state.ensures.value c.turn-stepped.ensures.turned) mine c.turn-stepped.ensures.given
    (λ number moment link adds. of_name r.name found.name last.name (λ n. IsWithin (g.C.Clock.meaning n.clock.value).window moment) name same_name
    (admit_timed (g.C.Clock.meaning last.name.clock.value).window found.log.records.items by number moment link
    (subst (λ (ms : List (RecordOf _ _ _)). AllByRecursion (TimedIn (g.C.Clock.meaning last.name.clock.value).window) (events ms)) adds c.turn-stepped.ensures.keeps.holds.timed)))
