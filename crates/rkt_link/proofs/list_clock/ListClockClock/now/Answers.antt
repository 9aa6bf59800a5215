use Rattle.std.proofs.Common.{arith, ◌≡◌, ◌≤◌, ◌<◌, ◌+◌, ◌∙◌, ℕ, Some, length, take, ap, sym, subst}
use Rattle.rkt_link.proofs.Clocks.{greatest_told, greatest_within, first_within, in_window}
use Rattle.rkt_link.specs.Clock.{ClockMeaning}
use Rattle.rkt_link.specs.Memory.{ClockInMemory, first, greatest}
use Rattle.rkt_link.proofs.list_clock.ListClockClock.now.Goals as goal

pub invariant_of-self : goal.invariant_of-self
invariant_of-self c =
    let within : c.self.inside.at < length c.self.inside.moments.items = omega (arith, c.self.invariant.within, c.if-self-len.false, c.len.ensures) in
    record {
      within = omega (arith, within);
      last_is = c.max-self-inside.ensures ∙ greatest_told c.self.inside.moments.items c.self.inside.at c.index.result.now c.self.inside.last within c.index.ensures c.self.invariant.last_is;
    }

pub returns-clause-last : goal.returns-clause-last
returns-clause-last c =
    let within : c.self.inside.at < length c.self.inside.moments.items = omega (arith, c.self.invariant.within, c.if-self-len.false, c.len.ensures) in
    let told : c.max-self-inside.result ≡ greatest (take (c.self.inside.at + 1) c.self.inside.moments.items) =
    c.max-self-inside.ensures ∙ greatest_told c.self.inside.moments.items c.self.inside.at c.index.result.now c.self.inside.last within c.index.ensures c.self.invariant.last_is in
    rw (← c.self.view_is) (ap (λ (n : ℕ). let m : ClockMeaning = record { last = n; window = Some (first c.self.inside.moments.items, greatest c.self.inside.moments.items) } in m) (sym told))

pub returns-clause-window : goal.returns-clause-window
returns-clause-window c w is =
    let within : c.self.inside.at < length c.self.inside.moments.items = omega (arith, c.self.invariant.within, c.if-self-len.false, c.len.ensures) in
    let told : c.max-self-inside.result ≡ greatest (take (c.self.inside.at + 1) c.self.inside.moments.items) =
    c.max-self-inside.ensures ∙ greatest_told c.self.inside.moments.items c.self.inside.at c.index.result.now c.self.inside.last within c.index.ensures c.self.invariant.last_is in
    let same : c.self.inside.moments.items ≡ c.args.self.now.moments = ap (λ (m : ClockInMemory). m.moments) c.self.view_is in
    let window = subst (λ ms. Some (first ms, greatest ms) ≡ Some w) (sym same) is in
    in_window _ _ c.max-self-inside.result w window
    (subst (λ (n : ℕ). first c.self.inside.moments.items ≤ n) (sym told) (first_within (c.self.inside.at + 1) c.self.inside.moments.items (λ e. absurd (omega (arith, e)))))
    (subst (λ (n : ℕ). n ≤ greatest c.self.inside.moments.items) (sym told) (greatest_within (c.self.inside.at + 1) c.self.inside.moments.items))
