-- What every reader of a source knows of it.
use Rattle.std.proofs.Common.{◌≡◌, ℕ, ◌∙◌, inr, inl, ⊎_elim, List, drop, Option, None, Some, refl, le_refl, le_trans}
use Rattle.std.specs.Prelude.{option_map}
use Rattle.rkt_source.specs.Source.{Meaning, Keeps}

pub Keeps-refl : (trip : Option ℕ) (m : Meaning) → Keeps trip m m
Keeps-refl trip m = record { whole = refl; never_faults = refl; pendings = refl; faults = le_refl _; pended = le_refl _; warned = λ h. inl h; still_warned = λ h. h; still_shut = λ h. h }

pub Keeps-trans : {trip : Option ℕ} {m n o : Meaning} → Keeps trip m n → Keeps trip n o → Keeps trip m o
Keeps-trans p q = record {
  whole = q.whole ∙ p.whole;
  never_faults = q.never_faults ∙ p.never_faults;
  pendings = q.pendings ∙ p.pendings;
  faults = le_trans p.faults q.faults;
  pended = le_trans p.pended q.pended;
  warned = λ h. ⊎_elim p.warned inr (q.warned h);
  still_warned = λ h. q.still_warned (p.still_warned h);
  still_shut = λ h. q.still_shut (p.still_shut h);
}

-- what a source tells, from where it was handed in
pub mapped : (m : ℕ) (o : Option (List ℕ)) (b : List ℕ) → option_map (drop m) o ≡ Some b → (w : List ℕ) × (o ≡ Some w) × (drop m w ≡ b)
mapped m None b e = absurd (cc)
mapped m (Some w) b e = (w, refl, cc)
