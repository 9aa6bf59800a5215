use Rattle.std.proofs.Common.{inl, ◌≡◌, ◌<◌, ℕ, List, refl, ap, sym, subst, ◌∙◌}
use Rattle.rkt_turn.specs.Booked.{of}
use Rattle.rkt_turn.specs.Known.{last_number}
use Rattle.rkt_turn.specs.Pass.{known}
use Rattle.rkt_board.specs.Records.{events}
use Rattle.rkt_board.specs.Turns.{IsOpen, IsRunOf}
use Rattle.rkt_board.specs.declared.history.EventOf.TheVariants.{End}
use Rattle.rkt_board.specs.declared.log_record.RecordOf.{RecordOf}
use Rattle.rkt_seat.proofs.Seating.{AddsQuietly, adds_of, early_adds, mine_same, open_in, run_on, seen_on, serving_on, starts_then, took_none, took_then, took_turn}
use Rattle.rkt_seat.proofs.seat.end.Goals as goal

pub loop-init : goal.loop-init
loop-init g c = (tt, tt, took_none c.args.lock.now c.args.pass.now c.requires.seat, refl, refl, c.number-by.ensures.number)

pub end_from-early-requires-clause-opened : goal.end_from-early-requires-clause-opened
end_from-early-requires-clause-opened g c =
    let inv = c.loop.invariant in
    let links = g.L.Link.Link.meaning in
    let v = known c.args.pass.now in
    let found = c.enter-guard.result.state in
    let ms = found.log.records.items in
    let starts = starts_then v.seen (known c.loop.pass).seen ms inv.2.seen c.enter-guard.ensures.seen in
    let mine = subst (λ (k : ℕ). of (λ (m : RecordOf _ _ _). m.by) k ms ≡ v.mine) inv.2.place.1 (c.enter-guard.ensures.mine inv.2.seat.2 ∙ inv.3) in
    subst (λ b. IsOpen links b.log.records.items c.number-by.result c.args.number (links c.loop.entry.link.io).asked) (sym c.state.ensures.value)
    (subst (λ e. IsOpen links ms c.number-by.result c.args.number (links e.link.io).asked) (sym inv.4)
    (subst (λ (k : ℕ). IsOpen links ms k c.args.number (links c.args.entry.link.io).asked) (sym inv.5)
    (open_in links v (g.P.Served.cause found.name.served (g.C.Clock.meaning found.name.clock.value).window) ms c.args.number _ c.requires.opened starts mine c.enter-guard.ensures.keeps.keeps.legal)))

pub end_from-early-requires-clause-ran : goal.end_from-early-requires-clause-ran
end_from-early-requires-clause-ran g c =
    let inv = c.loop.invariant in
    let v = known c.args.pass.now in
    let found = c.enter-guard.result.state in
    let starts = starts_then v.seen (known c.loop.pass).seen found.log.records.items inv.2.seen c.enter-guard.ensures.seen in
    let named = sym inv.2.place.0 ∙ c.enter-guard.ensures.name in
    subst (λ b. IsRunOf (g.C.Clock.meaning b.name.clock.value).window (events b.log.records.items) c.args.number c.loop.entry c.args.least) (sym c.state.ensures.value)
    (subst (λ e. IsRunOf (g.C.Clock.meaning found.name.clock.value).window (events found.log.records.items) c.args.number e c.args.least) (sym inv.4)
    (run_on (g.C.Clock.meaning found.name.clock.value).window v.seen found.log.records.items c.args.number c.args.entry c.args.least starts (c.requires.ran _ named)))

pub end_from-early-requires-clause-caused : goal.end_from-early-requires-clause-caused
end_from-early-requires-clause-caused g c moment late =
    let inv = c.loop.invariant in
    let v = known c.args.pass.now in
    let found = c.enter-guard.result.state in
    let starts = starts_then v.seen (known c.loop.pass).seen found.log.records.items inv.2.seen c.enter-guard.ensures.seen in
    let named = sym inv.2.place.0 ∙ c.enter-guard.ensures.name in
    subst (λ b. g.P.Served.cause b.name.served (g.C.Clock.meaning b.name.clock.value).window (events b.log.records.items) (End c.args.number c.loop.entry moment c.number-by.result)) (sym c.state.ensures.value)
    (subst (λ e. g.P.Served.cause found.name.served (g.C.Clock.meaning found.name.clock.value).window (events found.log.records.items) (End c.args.number e moment c.number-by.result)) (sym inv.4)
    (subst (λ (k : ℕ). g.P.Served.cause found.name.served (g.C.Clock.meaning found.name.clock.value).window (events found.log.records.items) (End c.args.number c.args.entry moment k)) (sym inv.5)
    (c.requires.caused _ named found.log.records.items moment starts late)))

pub leave-requires-clause-keeps : goal.leave-requires-clause-keeps
leave-requires-clause-keeps g c =
    let inv = c.loop.invariant in
    let early = c.end_from-early.ensures in
    let small = subst (λ (n : ℕ). n < last_number) (inv.2.place.1 ∙ sym inv.5) inv.2.seat.2 in
    serving_on c.number-by.result c.enter-guard.result.state c.end_from-early.new.board c.enter-guard.ensures.keeps early.keeps small
    (subst (λ (ms : List (RecordOf _ _ _)). AddsQuietly c.number-by.result ms c.end_from-early.new.board.log.records.items) (ap (λ b. b.log.records.items) c.state.ensures.value)
    (early_adds c.end_from-early.result c.number-by.result c.args.number c.loop.entry _ _ early.early early.adds))

pub leave-requires-clause-adds : goal.leave-requires-clause-adds
leave-requires-clause-adds g c =
    let inv = c.loop.invariant in
    let early = c.end_from-early.ensures in
    adds_of _ c.number-by.result _ _ _ (ap (λ v. v.number) c.enter-guard.ensures.view ∙ (inv.2.place.1 ∙ sym inv.5))
    (ap (λ v. v.base) c.enter-guard.ensures.view ∙ ap (λ b. b.log.records.items) (sym c.state.ensures.value))
    (early_adds c.end_from-early.result c.number-by.result c.args.number c.loop.entry _ _ early.early early.adds)

pub loop-preserved : goal.loop-preserved
loop-preserved g c =
    let inv = c.loop.invariant in
    let early = c.in-Some-early.ensures in
    let base = ap (λ v. v.base) c.enter-guard.ensures.view ∙ ap (λ b. b.log.records.items) (sym c.state.ensures.value) in (
      tt,
      tt,
      took_then c.args.lock.now c.args.pass.now c.loop.pass c.leave.new.pass inv.2
          (took_turn c.args.lock.now c.loop.pass c.enter-guard.new.pass c.leave.new.pass _ _ inv.2.seat c.enter-guard.ensures.own c.enter-guard.ensures.view c.leave.ensures.own c.leave.ensures.view c.leave.ensures.place
          (seen_on c.number-by.result _ _ _ _ (inl early.early.1) (ap (λ b. b.log.records.items) (sym c.state.ensures.value)) c.enter-guard.ensures.seen)),
      mine_same (known c.enter-guard.new.pass) (known c.leave.new.pass) _ c.leave.ensures.added (early.early.1 ∙ sym base) ∙ (ap (λ v. v.mine) c.enter-guard.ensures.view ∙ inv.3),
      early.early.0 ∙ inv.4,
      inv.5,
    )

pub returns-in-None-early-clause-took : goal.returns-in-None-early-clause-took
returns-in-None-early-clause-took g c =
    let inv = c.loop.invariant in
    let early = c.end_from-early.ensures in
    took_then c.args.lock.now c.args.pass.now c.loop.pass c.leave.new.pass inv.2
    (took_turn c.args.lock.now c.loop.pass c.enter-guard.new.pass c.leave.new.pass _ _ inv.2.seat c.enter-guard.ensures.own c.enter-guard.ensures.view c.leave.ensures.own c.leave.ensures.view c.leave.ensures.place
    (seen_on c.number-by.result _ _ _ _ (early_adds c.end_from-early.result c.number-by.result c.args.number c.loop.entry _ _ early.early early.adds) (ap (λ b. b.log.records.items) (sym c.state.ensures.value)) c.enter-guard.ensures.seen))
