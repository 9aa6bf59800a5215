-- Reads of an opened body.
use Rattle.std.specs.Option.{ForSome}
use Rattle.std.proofs.Common.{◌≢◌, ◌≡◌, ℕ, ◌+◌, ◌-◌, ◌≤◌, ◌<◌, ◌++◌, ◌∙◌, Bool, true, false, nat_eq, List, length, take, drop, Option, None, Some, sym, ap, arith, rules, length-take-le, length-drop, length-take, take_all, take_at, take-take, drop-drop}
use Rattle.std.proofs.lemmas.List.{drop-take, take-append-le}
use Rattle.std.proofs.lemmas.Bool.{eqb-true, eqb-false}
use Rattle.rkt_source.specs.Source.{Meaning, Gives}
use Rattle.rkt_data.specs.Stream.{Drawn, DrawnBy}
use Rattle.rkt_data.specs.CountedSource.{Tapped, body}
use Rattle.rkt_source.proofs.Sources.{mapped}

-- the front is the beginning of the body
front_is : {S : Type 0} (meaning : S → Meaning) (front : List ℕ) (limit given : ℕ) (probed : Bool) (tap : Option (Tapped S)) → DrawnBy meaning front limit given probed tap
    → (b : List ℕ) → body meaning front tap ≡ Some b → front ≡ take (length front) b
front_is meaning front limit given probed None d b e = let same : front ≡ b = cc in rw (← same) (sym (take_all (length front) front (omega arith)))
front_is meaning front limit given probed (Some t) d b e =
    let m = mapped (meaning t.begun).taken (meaning t.begun).whole b e in
    d.bytes m.0 (d.whole ∙ m.1) ∙ ap (take (length front)) m.2

-- bytes behind the position p of the front are those of the body
front_part : (front b : List ℕ) (p n : ℕ) → front ≡ take (length front) b → p + n ≤ length front → take n (drop p front) ≡ take n (drop p b)
front_part front b p n e h =
    let m : ℕ = length front - p in
    let long : length front ≡ p + m = omega arith in
    ap (λ l. take n (drop p l)) (e ∙ ap (λ i. take i b) long) ∙ ap (take n) (drop-take p m b) ∙ take-take n m (drop p b) (omega arith)

-- what a read of the front gives
pub front_read : {S : Type 0} (meaning : S → Meaning) (bytes : List ℕ) (held limit given : ℕ) (probed : Bool) (tap : Option (Tapped S)) (n : ℕ) (copied rest old : List ℕ)
    → DrawnBy meaning (take held bytes) limit given probed tap → held ≤ length bytes → given + n ≤ held → copied ≡ take n (drop given bytes)
    → (0 < length old → given < limit → n ≡ 0 → ⊥)
    → ForSome (body meaning (take held bytes) tap) (λ b. (take n (copied ++ rest) ≡ take n (drop given b)) × (0 < length old → given < limit → n ≡ 0 → length b ≤ given))
front_read meaning bytes held limit given probed tap n copied rest old d h l e z = λ b t.
    let long : length (take held bytes) ≡ held = length-take-le held bytes h in
    let some : n ≤ length (drop given bytes) = rw length-drop (omega arith) in
    let whole : take n (copied ++ rest) ≡ copied = take_at copied rest n (ap length e ∙ length-take-le n (drop given bytes) some) in
    let part : take n (drop given (take held bytes)) ≡ take n (drop given bytes) = front_part (take held bytes) bytes given n (sym (ap (λ i. take i bytes) long)) (omega (arith, long)) in
    let into : take n (drop given (take held bytes)) ≡ take n (drop given b) = front_part (take held bytes) b given n (front_is meaning (take held bytes) limit given probed tap d b t) (omega (arith, long)) in
    (whole ∙ e ∙ sym part ∙ into, λ o p q. absurd (z o p q))

not_probed : (m n : Meaning) (front : List ℕ) (limit given : ℕ) (probed : Bool) → Drawn m n front limit given probed → length front ≤ given → given < limit → n.taken ≡ m.taken + given
not_probed m n front limit given true d h l = let p : given ≡ limit = (d.past (search rules)).0 in absurd (omega (arith, p, l))
not_probed m n front limit given false d h l = omega (arith, d.taken, h)

source_part : (m n : Meaning) (front : List ℕ) (limit given : ℕ) (probed : Bool) → Drawn m n front limit given probed → length front ≤ given → given < limit → (w b : List ℕ) → drop m.taken w ≡ b
    → (j : ℕ) (new : List ℕ) → Gives w n.taken j new → (take j new ≡ take j (drop given b)) × (j ≡ 0 → length b ≤ given)
source_part m n front limit given probed d h l w b e j new y =
    let at : n.taken ≡ m.taken + given = not_probed m n front limit given probed d h l in (
      y.0 ∙ ap (λ i. take j (drop i w)) at ∙ ap (take j) (sym (drop-drop given m.taken w) ∙ ap (drop given) e),
      λ z. let t : n.taken ≡ length w = y.1 z in let long : length (drop m.taken w) ≡ length w - m.taken = length-drop m.taken w in rw (← e) (omega (arith, t, at, long)),
    )

-- what a read of the source gives
pub source_read : {S : Type 0} (meaning : S → Meaning) (front : List ℕ) (limit given : ℕ) (probed : Bool) (t : Tapped S) (j : ℕ) (new rest : List ℕ)
    → DrawnBy meaning front limit given probed (Some t) → length front ≤ given → given < limit → j ≤ length new → ForSome (meaning t.now).whole (λ w. Gives w (meaning t.now).taken j new)
    → ForSome (body meaning front (Some t)) (λ b. (take j (new ++ rest) ≡ take j (drop given b)) × (j ≡ 0 → length b ≤ given))
source_read meaning front limit given probed t j new rest d h l k y = λ b e.
    let m = mapped (meaning t.begun).taken (meaning t.begun).whole b e in
    let part = source_part (meaning t.begun) (meaning t.now) front limit given probed d h l m.0 b m.2 j new (y m.0 (d.whole ∙ m.1)) in
    (take-append-le j new rest k ∙ part.0, part.1)

probe_part : (at given : ℕ) (w b : List ℕ) (from : ℕ) → at ≡ from + given → drop from w ≡ b → (j : ℕ) (new : List ℕ) → j ≤ length new → Gives w at j new → (j ≡ 0 → length b ≤ given) × (j ≢ 0 → given < length b)
probe_part at given w b from e s j new h y =
    let long : length (drop from w) ≡ length w - from = length-drop from w in
    rw (← s) (
      (λ z. let t : at ≡ length w = y.1 z in omega (arith, t, e, long)),
      (λ z. let a : length (take j new) ≡ j = length-take-le j new h in let q : length (take j new) ≡ length (take j (drop at w)) = ap length y.0 in
          omega (arith, a, q, z, e, long, length-take j (drop at w), length-drop at w)),
    )

-- what the byte past the limit tells
pub probe_read : {S : Type 0} (meaning : S → Meaning) (front : List ℕ) (limit given : ℕ) (probed : Bool) (t : Tapped S) (j : ℕ) (new : List ℕ)
    → Drawn (meaning t.begun) (meaning t.now) front limit given probed → probed ≡ false → length front ≤ given → j ≤ length new → ForSome (meaning t.now).whole (λ w. Gives w (meaning t.now).taken j new)
    → ForSome (body meaning front (Some t)) (λ b. (nat_eq j 0 ≡ true → length b ≤ given) × (nat_eq j 0 ≡ false → given < length b))
probe_read meaning front limit given probed t j new d off h k y = λ b e.
    let m = mapped (meaning t.begun).taken (meaning t.begun).whole b e in
    let taken = rw off at d.taken in
    let at : (meaning t.now).taken ≡ (meaning t.begun).taken + given = omega (arith, taken, h) in
    let part = probe_part (meaning t.now).taken given m.0 b (meaning t.begun).taken at m.2 j new k (y m.0 (d.whole ∙ m.1)) in
    ((λ z. part.0 (eqb-true j 0 z)), (λ z. part.1 (eqb-false j 0 z)))
