-- Two streams that are asked in turn.
use Rattle.std.proofs.Common.{◌≡◌, ℕ, ◌+◌, ◌<◌, ◌≤◌, ◌∙◌, Bool, true, false, nat_eq, List, [], ◌∷◌, Option, None, Some, refl, ap, arith, inr, ⊎_elim}
use Rattle.std.proofs.lemmas.Bool.Decides.{nat_tests}
use Rattle.rkt_base.specs.declared.poll.Poll.{Poll}
use Rattle.rkt_base.specs.declared.poll.Poll.TheVariants.{Ready, Pending}
use Rattle.rkt_source.specs.declared.source.Gate.{Gate}
use Rattle.rkt_stream.specs.Flow.{Flow, Flows, Shifts, Asks, AsksBoth, alternate, joined_rest, joined_flow}

-- the item of the list whose turn it is comes first
alternate-cons : {X : Type 0} (x : X) (xs ys : List X) → alternate (x ∷ xs) ys ≡ x ∷ alternate ys xs
alternate-cons x xs [] = refl
alternate-cons x [] (y ∷ ys) = refl
alternate-cons x (z ∷ xs) (y ∷ ys) = ap (λ l. x ∷ (y ∷ l)) (alternate-cons z xs ys)

-- a stream that was Pending may be Pending, so the two together tell nothing
not_quiet : (m n : ℕ) → 0 < m → nat_eq (m + n) 0 ≡ false
not_quiet m n h = grind (arith, nat_tests)

shifts_by : {X : Type 0} (quiet : Bool) (x : X) (r r' s : Option (List X)) → Shifts r x r' → Shifts (joined_rest quiet false r s) x (joined_rest quiet false s r')
shifts_by false x r r' s h = refl
shifts_by true x None r' None h = refl
shifts_by true x None r' (Some ys) h = rw h refl
shifts_by true x (Some xs) r' None h = refl
shifts_by true x (Some xs) r' (Some ys) h = rw (h.1, h.2) (alternate ys h.0, alternate-cons x h.0 ys, refl)

-- the one that is asked first gives an item
joined_some : {X : Type 0} (a a' b : Flow X) (x : X) → Flows a (Ready (Some x)) a' → Flows (joined_flow false a b) (Ready (Some x)) (joined_flow false b a')
joined_some a a' b x h =
    let w = h.0 in
    let wp = w.pendings in
    let wq = w.pended in
    let less = h.3 in
    let quiet : b.pendings + a'.pendings ≡ a.pendings + b.pendings = omega (arith, wp) in (
      record { pendings = quiet; pended = omega (arith, wq) },
      refl,
      refl,
      omega (arith, less),
      rw quiet (shifts_by (nat_eq (a.pendings + b.pendings) 0) x a.rest a'.rest b.rest h.4),
    )

-- the one that is asked first is Pending
module _ {X : Type 0} (a a' b b' : Flow X) (h : Flows a Pending a') where
  same_pendings : a'.pendings ≡ a.pendings
  same_pendings = ap (λ f. f.pendings) h.0

  same_left : a'.left ≡ a.left
  same_left = ap (λ f. f.left) h.0

  untold : nat_eq (a.pendings + b.pendings) 0 ≡ false
  untold = let p = h.2 in let q = h.3 in not_quiet a.pendings b.pendings (omega (arith, p, q))

  untold_later : nat_eq (b'.pendings + a'.pendings) 0 ≡ false
  untold_later =
      let p = h.2 in
      let q = h.3 in
      let e = same_pendings in
      let turned : b'.pendings + a'.pendings ≡ a'.pendings + b'.pendings = omega arith in
      ap (λ n. nat_eq n 0) turned ∙ not_quiet a'.pendings b'.pendings (omega (arith, p, q, e))

  later_some : (x : X) → Flows b (Ready (Some x)) b' → Flows (joined_flow false a b) (Ready (Some x)) (joined_flow false b' a')
  later_some x k =
      let w = k.0 in
      let wp = w.pendings in
      let wq = w.pended in
      let less = k.3 in
      let p = h.2 in
      let e = same_pendings in
      let l = same_left in
      let pendings : b'.pendings + a'.pendings ≡ a.pendings + b.pendings = omega (arith, wp, e) in
      let pended : a.pended + b.pended ≤ b'.pended + a'.pended = omega (arith, wq, p) in
      let left : b'.left + a'.left < a.left + b.left = omega (arith, less, l) in
      rw (untold, untold_later) (record { pendings = pendings; pended = pended }, refl, refl, left, refl)

pub joined_asks_some : {X : Type 0} (a a' b b' : Flow X) (x : X) → Asks a a' b b' (Ready (Some x)) → Flows (joined_flow false a b) (Ready (Some x)) (joined_flow false b' a')
joined_asks_some a a' b b' x h = ⊎_elim (λ k. rw k.0 (joined_some a a' b x k.1)) (λ k. later_some a a' b b' k.0 x k.1) h

-- the other is asked where the one is Pending
pub asks_after : {A B X : Type 0} (one : A → Gate → Poll (Option X) → A → Type 0) (other : B → Gate → Poll (Option X) → B → Type 0) (gate : Gate) (a : A) (b : B) (answer : Poll (Option X)) (a' : A) (b' : B)
    → one a gate Pending a' → other b gate answer b' → AsksBoth one other gate a b answer a' b'
asks_after one other gate a b Pending a' b' p q = (p, q)
asks_after one other gate a b (Ready item) a' b' p q = inr (p, q)
