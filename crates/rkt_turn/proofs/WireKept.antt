-- Each step on a wire keeps its rule.
use Rattle.std.proofs.Common.{◌≡◌, ℕ, ◌+◌, ◌≢◌, inl, inr, ⊎_elim, max, List, slice_index, slice_set, refl, ap, ◌∙◌, subst, arith}
use mathlib.Core.Option.{some}
use lib.ListN.{get_elem?}
use Rattle.atomic_table.specs.Table.{Me, Allows, Splits, Joins, keeps}
use Rattle.atomic_table.proofs.Lists.{at_set, at_snoc, exchanged}
use Rattle.rkt_turn.specs.declared.glance.Glance.{Glance}
use Rattle.rkt_turn.specs.Wire.{ZeroOr, SeenBy, EachSeen, IsWord, Wired, LooksAt, TripsBy, SettlesAt, standing, twinned, blank}

each_set : (w id : ℕ) (v : Glance) (views : List Glance) → SeenBy w v → EachSeen w views → EachSeen w (slice_set views id v)
each_set w id v views p h = λ j u t. ⊎_elim (λ (e : (j ≡ id) × (v ≡ u)). subst (SeenBy w) e.1 p) (λ (e : (j ≢ id) × (get_elem? views j ≡ some u)). h j u e.1) (at_set views id j v u t)

pub looks : (allowed : ℕ → Type 0) (slots id : ℕ) (me : Me (Unit {0}) Glance) → Allows (Wired allowed) slots id me 0 (λ n. n) (LooksAt allowed me)
looks allowed slots id me s h len at fits =
    let w : ℕ = h.0 in
    let e : slice_index s.words 0 ≡ w = ap (λ l. slice_index l 0) h.1 in
    rw e (
      record { seen = w; twin = 0; looked = me.0.looked + 1 },
      keeps,
      tt,
      (w, ap (λ l. slice_set l 0 w) h.1, h.2, each_set w id _ s.views (inr refl, inl refl) h.3),
      (refl, h.2, h.3 id me.0 at),
    )

unseen : (w new : ℕ) (v : Glance) → w ≡ 0 → SeenBy w v → SeenBy new v
unseen w new v z p = (inl (⊎_elim (λ e. e) (λ e. e ∙ z) p.0), inl (⊎_elim (λ e. e) (λ e. e ∙ z) p.1))

pub trips : (allowed : ℕ → Type 0) (slots id new : ℕ) (me : Me (Unit {0}) Glance) → allowed new → Allows (Wired allowed) slots id me 0 (λ n. standing n new) (TripsBy allowed new me)
trips allowed slots id new me ok s h len at fits =
    let w : ℕ = h.0 in
    let e : slice_index s.words 0 ≡ w = ap (λ l. slice_index l 0) h.1 in
    let word : IsWord allowed (standing w new) = exchanged w 0 new (IsWord allowed) (λ z. inr ok) (λ z. h.2) in
    let others : EachSeen (standing w new) s.views = exchanged w 0 new (λ x. EachSeen x s.views) (λ z. λ j u t. unseen w new u z (h.3 j u t)) (λ z. h.3) in
    rw e (
      record { seen = standing w new; twin = 0; looked = me.0.looked },
      keeps,
      tt,
      (standing w new, ap (λ l. slice_set l 0 (standing w new)) h.1, word, each_set (standing w new) id _ s.views (inr refl, inl refl) others),
      (refl, h.2, h.3 id me.0 at),
    )

larger : (w a b : ℕ) → ZeroOr w a → ZeroOr w b → ZeroOr w (max a b)
larger w a b p q = ⊎_elim (λ x. ⊎_elim (λ y. inl (omega arith)) (λ y. inr (omega arith)) q) (λ x. ⊎_elim (λ y. inr (omega arith)) (λ y. inr (omega arith)) q) p

pub settles : (allowed : ℕ → Type 0) (slots id : ℕ) (me : Me (Unit {0}) Glance) → Allows (Wired allowed) slots id me 0 (λ n. n) (SettlesAt me)
settles allowed slots id me s h len at fits =
    let w : ℕ = h.0 in
    let mine : SeenBy w me.0 = h.3 id me.0 at in
    let e : slice_index s.words 0 ≡ w = ap (λ l. slice_index l 0) h.1 in
    rw e (
      record { seen = max me.0.seen me.0.twin; twin = 0; looked = me.0.looked },
      keeps,
      tt,
      (w, ap (λ l. slice_set l 0 w) h.1, h.2, each_set w id _ s.views (larger w me.0.seen me.0.twin mine.0 mine.1, inl refl) h.3),
      (refl, mine),
    )

pub copies : (allowed : ℕ → Type 0) (id : ℕ) (v : Glance) → Splits {S = Unit {0}} (Wired allowed) id v v v
copies allowed id v s h at = (
  h.0,
  h.1,
  h.2,
  λ j u t.
      ⊎_elim (λ was. each_set h.0 id v s.views (h.3 id v at) h.3 j u was) (λ (e : v ≡ u). subst (SeenBy h.0) e (h.3 id v at)) (at_snoc (slice_set s.views id v) v u j t),
)

pub twins : (allowed : ℕ → Type 0) (id : ℕ) (v : Glance) (other : ℕ) (w : Glance) → w.twin ≡ 0 → Joins {S = Unit {0}} (Wired allowed) id v other w (twinned v w) blank
twins allowed id v other w z s h at ne there =
    let theirs : SeenBy h.0 w = ⊎_elim (λ (e : (other ≡ id) × (twinned v w ≡ w)). absurd (ne e.0)) (λ (e : (other ≢ id) × (get_elem? s.views other ≡ some w)). h.3 other w e.1) (at_set s.views id other (twinned v w) w there) in (
      h.0,
      h.1,
      h.2,
      each_set h.0 other blank (slice_set s.views id (twinned v w)) (inl refl, inl refl)
          (each_set h.0 id (twinned v w) s.views ((h.3 id v at).0, theirs.0) h.3),
    )
