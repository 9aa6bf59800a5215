-- What a source means that is chained keeps the laws of a source.
use Rattle.std.proofs.Common.{ℕ, ◌+◌, ◌≤◌, Bool, IsTrue, ⊎_elim, refl, ap, arith}
use Rattle.std.specs.Prelude.{◌&&◌}
use Rattle.std.proofs.lemmas.Bool.{or_cases, or_left, or_right, and_parts}
use Rattle.rkt_base.specs.declared.poll.Poll.{Poll}
use Rattle.rkt_base.specs.declared.poll.Poll.TheVariants.{Ready, Pending}
use Rattle.rkt_stream.specs.Chain.{Chained, chained_meaning, ShutsChained}
use Rattle.rkt_source.specs.Source.{Meaning, Shuts}

pub chained_shut_is_warned : (over : Bool) (skipped : ℕ) (m n : Meaning)
    → (IsTrue m.shut → IsTrue m.warned)
    → (IsTrue n.shut → IsTrue n.warned)
    → IsTrue (chained_meaning over skipped m n).shut
    → IsTrue (chained_meaning over skipped m n).warned
chained_shut_is_warned over skipped m n p q h =
    ⊎_elim (λ s. or_left m.warned n.warned (p s)) (λ s. or_right m.warned n.warned (q (and_parts over n.shut s).1))
    (or_cases m.shut (over && n.shut) h)

pub chained_waits_within : (m n : Meaning)
    → m.pended ≤ m.pendings
    → n.pended ≤ n.pendings
    → m.pended + n.pended ≤ m.pendings + n.pendings
chained_waits_within m n p q = omega arith

-- the first was Pending
first_waits : (over : Bool) (skipped : ℕ) (m m' n : Meaning)
    → n.pended ≤ n.pendings
    → Shuts m Pending m'
    → Shuts (chained_meaning over skipped m n) Pending (chained_meaning over skipped m' n)
first_waits over skipped m m' n within h =
    let low = h.1.0 in
    let high = h.1.1 in (
      ap (λ x. record (chained_meaning over skipped x n) { pended = m'.pended + n.pended }) h.0,
      (omega (arith, low), omega (arith, high)),
    )

-- the second was Pending
second_waits : (over : Bool) (skipped : ℕ) (m n n' : Meaning)
    → m.pended ≤ m.pendings
    → Shuts n Pending n'
    → Shuts (chained_meaning over skipped m n) Pending (chained_meaning over skipped m n')
second_waits over skipped m n n' within h =
    let low = h.1.0 in
    let high = h.1.1 in (
      ap (λ x. record (chained_meaning over skipped m x) { pended = m.pended + n'.pended }) h.0,
      (omega (arith, low), omega (arith, high)),
    )

module _ {T U : Type 0} (mt : T → Meaning) (mu : U → Meaning) (st : T → Poll (Unit {0}) → T → Type 0)
    (su : U → Poll (Unit {0}) → U → Type 0)
    (kt : (s t : T) (answer : Poll (Unit {0})) → st s answer t → Shuts (mt s) answer (mt t))
    (ku : (s t : U) (answer : Poll (Unit {0})) → su s answer t → Shuts (mu s) answer (mu t))
    (wt : (s : T) → (mt s).pended ≤ (mt s).pendings) (wu : (s : U) → (mu s).pended ≤ (mu s).pendings) where
  chained_shuts_at : (c d : Chained T U) (answer : Poll (Unit {0}))
      → ShutsChained st su c answer d
      → Shuts (chained_meaning c.over c.skipped (mt c.first) (mu c.second)) answer
      (chained_meaning c.over c.skipped (mt d.first) (mu d.second))
  chained_shuts_at c d Pending h =
      ⊎_elim (λ k. rw k.0
      (first_waits c.over c.skipped (mt c.first) (mt d.first) (mu c.second) (wu c.second) (kt c.first d.first Pending k.1)))
      (λ k. rw (kt c.first d.first (Ready tt) k.0)
      (second_waits c.over c.skipped (mt c.first) (mu c.second) (mu d.second) (wt c.first) (ku c.second d.second Pending k.1)))
      h.1
  chained_shuts_at c d (Ready answer) h = rw (kt c.first d.first (Ready tt) h.1, ku c.second d.second (Ready tt) h.2) refl

  pub chained_shuts : (c d : Chained T U) (answer : Poll (Unit {0}))
      → ShutsChained st su c answer d
      → Shuts (chained_meaning c.over c.skipped (mt c.first) (mu c.second)) answer
      (chained_meaning d.over d.skipped (mt d.first) (mu d.second))
  chained_shuts c d Pending h = rw (h.0.0, h.0.1) (chained_shuts_at c d Pending h)
  chained_shuts c d (Ready answer) h = rw (h.0.0, h.0.1) (chained_shuts_at c d (Ready answer) h)
