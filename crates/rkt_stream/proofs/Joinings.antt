-- The bytes of a stream's items, joined.
use Rattle.std.specs.List.{flat_map}
use Rattle.std.specs.Option.{ForSome}
use Rattle.std.specs.Prelude.{option_map}
use Rattle.std.proofs.Common.{◌≡◌, ℕ, ◌+◌, ◌≤◌, ◌<◌, ◌++◌, ◌∙◌, List, [], length, take, drop, Option, None, Some, Vec, refl, sym, ap, arith, append_assoc, length-append, length-take-le, take-append-drop, drop_at, le_refl, le_trans}
use Rattle.std.specs.declared.alloc.Global.{Global}
use Rattle.std.proofs.lemmas.List.{nil_from_length, take-append-le}
use Rattle.rkt_base.specs.declared.poll.Poll.TheVariants.{Ready, Pending}
use Rattle.rkt_stream.specs.Flow.{Flow, Flows, Waited, Shifts}
use Rattle.rkt_stream.specs.Joining.{Parts, NextBytes, joined}

Waited-trans : {X : Type 0} {m n o : Flow X} → Waited m n → Waited n o → Waited m o
Waited-trans p q = record { pendings = q.pendings ∙ p.pendings; pended = le_trans p.pended q.pended }

-- the next n bytes of the piece were given
pub Parts-given : {whole piece : List ℕ} {taken : ℕ} {ahead : Option (List ℕ)} (n : ℕ) → n ≤ length piece → Parts whole taken piece ahead → Parts whole (taken + n) (drop n piece) ahead
Parts-given {piece = piece} n fits p = record {
  given = p.given ++ take n piece;
  to_come = p.to_come;
  told = p.told;
  parts = p.parts ∙ ap (λ l. p.given ++ l) (ap (λ l. l ++ p.to_come) (sym (take-append-drop n piece)) ∙ append_assoc (take n piece) (drop n piece) p.to_come) ∙ sym (append_assoc p.given (take n piece) (drop n piece ++ p.to_come));
  count = length-append p.given (take n piece) ∙ omega (arith, p.count, length-take-le n piece fits);
}

-- they are the next bytes of the whole
pub Parts-next : {whole piece : List ℕ} {taken : ℕ} {ahead : Option (List ℕ)} (n : ℕ) → n ≤ length piece → Parts whole taken piece ahead → take n (drop taken whole) ≡ take n piece
Parts-next {piece = piece} {taken = taken} n fits p = ap (λ l. take n (drop taken l)) p.parts ∙ ap (take n) (drop_at p.given (piece ++ p.to_come) taken p.count) ∙ take-append-le n piece p.to_come fits

-- a used up piece is replaced
pub Parts-item : {whole : List ℕ} {taken : ℕ} {ahead later : Option (List ℕ)} (piece item : List ℕ) → length piece ≡ 0 → Parts whole taken piece ahead → ForSome ahead (λ l. (to_come : List ℕ) × (l ≡ item ++ to_come) × (later ≡ Some to_come)) → Parts whole taken item later
Parts-item piece item none p next =
    let n = next p.to_come p.told in
    record { given = p.given; to_come = n.0; told = n.2; parts = p.parts ∙ ap (λ l. p.given ++ l) (ap (λ l. l ++ p.to_come) (nil_from_length piece none) ∙ n.1); count = p.count }

-- nothing is left
pub Parts-over : {whole : List ℕ} {taken : ℕ} {ahead : Option (List ℕ)} (piece : List ℕ) → length piece ≡ 0 → ForSome ahead (λ l. l ≡ []) → Parts whole taken piece ahead → taken ≡ length whole
Parts-over {whole = whole} piece none end p =
    let long : length whole ≡ length p.given + (length piece + length p.to_come) = ap length p.parts ∙ length-append p.given (piece ++ p.to_come) ∙ ap (λ n. length p.given + n) (length-append piece p.to_come) in
    let last : length p.to_come ≡ 0 = ap length (end p.to_come p.told) in
    omega (arith, long, last, none, p.count)

-- an empty item changes nothing
joined-empty : (r s : Option (List (Vec ℕ Global))) (x : Vec ℕ Global) → Shifts r x s → x.items ≡ [] → option_map (flat_map (λ v. v.items)) s ≡ option_map (flat_map (λ v. v.items)) r
joined-empty None s x h none = rw h refl
joined-empty (Some xs) s x h none = rw (h.2, h.1) (ap Some (sym (ap (λ l. l ++ flat_map (λ v. v.items) h.0) none)))

joined-item : (r s : Option (List (Vec ℕ Global))) (x : Vec ℕ Global) → Shifts r x s → ForSome (option_map (flat_map (λ v. v.items)) r) (λ w. (to_come : List ℕ) × (w ≡ x.items ++ to_come) × (option_map (flat_map (λ v. v.items)) s ≡ Some to_come))
joined-item None s x h = λ w e. absurd (cc)
joined-item (Some xs) s x h = λ w e. let told : flat_map (λ v. v.items) xs ≡ w = cc in (flat_map (λ v. v.items) h.0, sym told ∙ ap (flat_map (λ v. v.items)) h.1, ap (option_map (flat_map (λ v. v.items))) h.2)

joined-none : (r : Option (List (Vec ℕ Global))) → ForSome r (λ xs. xs ≡ []) → ForSome (option_map (flat_map (λ v. v.items)) r) (λ w. w ≡ [])
joined-none None h = λ w e. absurd (cc)
joined-none (Some xs) h = λ w e. let told : flat_map (λ v. v.items) xs ≡ w = cc in sym told ∙ ap (flat_map (λ v. v.items)) (h xs refl)

-- empty items were passed over
pub record Passed (m n : Flow (Vec ℕ Global)) : Type 0 where
  pub waited : Waited m n
  pub same : joined n ≡ joined m

pub Passed-none : (m : Flow (Vec ℕ Global)) → Passed m m
Passed-none m = record { waited = record { pendings = refl; pended = le_refl _ }; same = refl }

pub Passed-more : {m n o : Flow (Vec ℕ Global)} (x : Vec ℕ Global) → Passed m n → Flows n (Ready (Some x)) o → x.items ≡ [] → Passed m o
Passed-more {m = m} {n = n} {o = o} x p h none = record { waited = Waited-trans p.waited h.0; same = joined-empty n.rest o.rest x h.4 none ∙ p.same }

pub NextBytes-item : {m n o : Flow (Vec ℕ Global)} (x : Vec ℕ Global) → Passed m n → Flows n (Ready (Some x)) o → 0 < length x.items → NextBytes m o (Ready (Some x))
NextBytes-item {m = m} {n = n} {o = o} x p h some = (Waited-trans p.waited h.0, some, λ w e. joined-item n.rest o.rest x h.4 w (p.same ∙ e))

pub NextBytes-end : {m n o : Flow (Vec ℕ Global)} → Passed m n → Flows n (Ready None) o → NextBytes m o (Ready None)
NextBytes-end {m = m} {n = n} {o = o} p h = (Waited-trans p.waited h.0, ap (option_map (flat_map (λ v. v.items))) h.2 ∙ p.same, λ w e. joined-none n.rest h.4 w (p.same ∙ e))

pub NextBytes-waits : {m n o : Flow (Vec ℕ Global)} → Passed m n → Flows n Pending o → NextBytes m o Pending
NextBytes-waits {m = m} {n = n} {o = o} p h =
    let w = p.waited in
    let later = w.pended in
    let bound = w.pendings in
    let low = h.2 in
    let high = h.3 in
    (ap (λ f. f.pendings) h.0 ∙ bound, ap joined h.0 ∙ p.same, omega (arith, later, low), omega (arith, high, bound))
