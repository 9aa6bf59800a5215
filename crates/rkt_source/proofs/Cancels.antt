-- The machine of an object that a trip cuts off.
use Rattle.std.proofs.Common.{◌≡◌, ◌++◌, List, [], ◌∷◌, ℕ, ◌-◌, ◌<◌, ◌≤◌, ◌⊎◌, ◌∙◌, inl, inr, ⊎_elim, Bool, true, false, Option, None, Some, IsSome, IsTrue, if◌then◌else◌, refl, sym, ap, subst, rules}
use Rattle.std.specs.Prelude.{nat_le}
use Rattle.std.proofs.lemmas.Bool.{leb-false, leb-true, or_cases, or_left, or_right}
use Rattle.rkt_base.specs.declared.poll.Poll.{Poll}
use Rattle.rkt_base.specs.declared.poll.Poll.TheVariants.{Ready, Pending}
use Rattle.rkt_source.specs.declared.source.Gate.{Gate}
use Rattle.rkt_source.specs.declared.stage.Stage.{Stage}
use Rattle.rkt_source.specs.declared.stage.Stage.TheVariants.{Active, Grace, Mercy, Gone}
use Rattle.rkt_source.specs.declared.stage.Refused.{Refused}
use Rattle.rkt_source.specs.Source.{Meaning, Keeps}
use Rattle.rkt_source.specs.Cancel.{Cancellable, Steps, Runs, HaveGrace, CutsAfterGrace, Ending, ClosedAt, Arrives, noticed, run_out, advanced, late, saw_of, cut_of, is_warned, is_gone, cut_meaning}

grace_by : (b : Bool) (grace now old saw : ℕ) → nat_le grace (now - old) ≡ b → (if b then Mercy old now else Grace old) ≡ Grace saw → now - saw < grace
grace_by true grace now old saw t e = absurd (cc)
grace_by false grace now old saw t e = let same : old ≡ saw = cc in subst (λ x. now - x < grace) same (leb-false grace (now - old) t)

run_out_grace : (grace now : ℕ) (s : Stage) (saw : ℕ) → run_out grace now s ≡ Grace saw → now - saw < grace
run_out_grace grace now Active saw e = absurd (cc)
run_out_grace grace now (Grace old) saw e = grace_by (nat_le grace (now - old)) grace now old saw refl e
run_out_grace grace now (Mercy a b) saw e = absurd (cc)
run_out_grace grace now (Gone a b) saw e = absurd (cc)

-- in the stage Grace less than the grace has gone by
pub in_grace : (gate : Gate) (s : Stage) (saw : ℕ) → advanced gate s ≡ Grace saw → gate.moment - saw < gate.grace
in_grace gate s saw e = run_out_grace gate.grace gate.moment (noticed gate.tripped gate.moment s) saw e

-- one stage follows another in a call
pub record Later (trip : Option ℕ) (s t : Stage) : Type 0 where
  pub warned : IsTrue (is_warned t) → IsTrue (is_warned s) ⊎ IsSome trip
  pub still_warned : IsTrue (is_warned s) → IsTrue (is_warned t)
  pub still_gone : IsTrue (is_gone s) → IsTrue (is_gone t)

pub cut_keeps : {trip : Option ℕ} {s t : Stage} {m n : Meaning} → Later trip s t → Keeps trip m n → Keeps trip (cut_meaning s m) (cut_meaning t n)
cut_keeps {s = s} {t = t} {m = m} {n = n} l k = record {
  whole = k.whole;
  never_faults = k.never_faults;
  pendings = k.pendings;
  faults = k.faults;
  pended = k.pended;
  warned = λ h. ⊎_elim (λ a. ⊎_elim (λ b. inl (or_left (is_warned s) m.warned b)) inr (l.warned a)) (λ a. ⊎_elim (λ b. inl (or_right (is_warned s) m.warned b)) inr (k.warned a)) (or_cases (is_warned t) n.warned h);
  still_warned = λ h. ⊎_elim (λ a. or_left (is_warned t) n.warned (l.still_warned a)) (λ a. or_right (is_warned t) n.warned (k.still_warned a)) (or_cases (is_warned s) m.warned h);
  still_shut = λ h. ⊎_elim (λ a. or_left (is_gone t) n.shut (l.still_gone a)) (λ a. or_right (is_gone t) n.shut (k.still_shut a)) (or_cases (is_gone s) m.shut h);
}

Later-noticed : (trip : Option ℕ) (now : ℕ) (s : Stage) → Later trip s (noticed trip now s)
Later-noticed None now Active = record { warned = λ h. inl h; still_warned = λ h. h; still_gone = λ h. h }
Later-noticed (Some x) now Active = record { warned = λ h. inr (search rules); still_warned = λ h. refl; still_gone = λ h. h }
Later-noticed trip now (Grace a) = record { warned = λ h. inl refl; still_warned = λ h. refl; still_gone = λ h. h }
Later-noticed trip now (Mercy a b) = record { warned = λ h. inl refl; still_warned = λ h. refl; still_gone = λ h. h }
Later-noticed trip now (Gone a b) = record { warned = λ h. inl refl; still_warned = λ h. refl; still_gone = λ h. refl }

Later-mercy : (b : Bool) (trip : Option ℕ) (now saw : ℕ) → Later trip (Grace saw) (if b then Mercy saw now else Grace saw)
Later-mercy true trip now saw = record { warned = λ h. inl refl; still_warned = λ h. refl; still_gone = λ h. absurd (cc) }
Later-mercy false trip now saw = record { warned = λ h. inl refl; still_warned = λ h. refl; still_gone = λ h. h }

Later-same : (trip : Option ℕ) (s : Stage) → Later trip s s
Later-same trip s = record { warned = λ h. inl h; still_warned = λ h. h; still_gone = λ h. h }

Later-run_out : (trip : Option ℕ) (grace now : ℕ) (s : Stage) → Later trip s (run_out grace now s)
Later-run_out trip grace now Active = Later-same trip Active
Later-run_out trip grace now (Grace saw) = Later-mercy (nat_le grace (now - saw)) trip now saw
Later-run_out trip grace now (Mercy saw cut) = Later-same trip (Mercy saw cut)
Later-run_out trip grace now (Gone saw cut) = Later-same trip (Gone saw cut)

pub Later-trans : {trip : Option ℕ} {s t u : Stage} → Later trip s t → Later trip t u → Later trip s u
Later-trans p q = record {
  warned = λ h. ⊎_elim p.warned inr (q.warned h);
  still_warned = λ h. q.still_warned (p.still_warned h);
  still_gone = λ h. q.still_gone (p.still_gone h);
}

pub Later-advanced : (gate : Gate) (s : Stage) → Later gate.tripped s (advanced gate s)
Later-advanced gate s = Later-trans (Later-noticed gate.tripped gate.moment s) (Later-run_out gate.tripped gate.grace gate.moment (noticed gate.tripped gate.moment s))

pub Later-gone : (trip : Option ℕ) (saw cut : ℕ) → Later trip (Mercy saw cut) (Gone saw cut)
Later-gone trip saw cut = record { warned = λ h. inl refl; still_warned = λ h. refl; still_gone = λ h. refl }

-- one call more
pub Runs-more : (gate : Gate) (gates : List Gate) (s t u : Stage) → Runs gates s t → Steps gate t u → Runs (gates ++ gate ∷ []) s u
Runs-more gate [] s t u h step = (u, rw h at step, refl)
Runs-more gate (g ∷ gates) s t u h step = (h.0, h.1, Runs-more gate gates h.0 t u h.2 step)

-- each call of the machine is a step of its stages
module _ {I : Type 0} (shuts : I → Poll (Unit {0}) → I → Type 0) (gate : Gate) (s : Stage) (io : I) (after : Cancellable I) where
  ending_steps : (b : Bool) (saw cut : ℕ) (refusal : Poll Refused) → advanced gate s ≡ Mercy saw cut → Ending shuts b saw cut io after refusal → Steps gate s after.stage
  ending_steps true saw cut refusal e h = inr (saw, cut, e, ap (λ c. c.stage) h.0)
  ending_steps false saw cut Pending e h = inl (h.0 ∙ sym e)
  ending_steps false saw cut (Ready refusal) e h = inr (saw, cut, e, h.0)

  closed_steps : (t : Stage) (refusal : Poll Refused) → advanced gate s ≡ t → ClosedAt shuts gate t io after refusal → Steps gate s after.stage
  closed_steps Active refusal e h = absurd h
  closed_steps (Grace saw) refusal e h = absurd h
  closed_steps (Mercy saw cut) refusal e h = ending_steps (late gate cut) saw cut refusal e h
  closed_steps (Gone saw cut) refusal e h = inl (ap (λ c. c.stage) h.0 ∙ sym e)

pub arrives_steps : {I : Type 0} (shuts : I → Poll (Unit {0}) → I → Type 0) (gate : Gate) (before after : Cancellable I) (answer : Option (Poll Refused)) → Arrives shuts gate before after answer → Steps gate before.stage after.stage
arrives_steps shuts gate before after None h = inl (ap (λ c. c.stage) h.1)
arrives_steps shuts gate before after (Some refusal) h = closed_steps shuts gate before.stage before.io after (advanced gate before.stage) refusal refl h

pub step_in_grace : (gate : Gate) (s t : Stage) (saw : ℕ) → Steps gate s t → t ≡ Grace saw → gate.moment - saw < gate.grace
step_in_grace gate s t saw h e = ⊎_elim (λ a. in_grace gate s saw (sym a ∙ e)) (λ g. absurd (cc (g.3))) h

-- an object that is cut off was so once the grace had gone by
abbrev WellCut : ℕ → Stage → Type 0
WellCut grace Active = Unit {0}
WellCut grace (Grace saw) = Unit {0}
WellCut grace (Mercy saw cut) = grace ≤ cut - saw
WellCut grace (Gone saw cut) = grace ≤ cut - saw

noticed_well : (grace : ℕ) (trip : Option ℕ) (now : ℕ) (s : Stage) → WellCut grace s → WellCut grace (noticed trip now s)
noticed_well grace None now Active h = tt
noticed_well grace (Some x) now Active h = tt
noticed_well grace trip now (Grace saw) h = tt
noticed_well grace trip now (Mercy saw cut) h = h
noticed_well grace trip now (Gone saw cut) h = h

grace_well : (b : Bool) (grace now saw : ℕ) → nat_le grace (now - saw) ≡ b → WellCut grace (if b then Mercy saw now else Grace saw)
grace_well true grace now saw e = leb-true grace (now - saw) e
grace_well false grace now saw e = tt

run_out_well : (grace now : ℕ) (s : Stage) → WellCut grace s → WellCut grace (run_out grace now s)
run_out_well grace now Active h = tt
run_out_well grace now (Grace saw) h = grace_well (nat_le grace (now - saw)) grace now saw refl
run_out_well grace now (Mercy saw cut) h = h
run_out_well grace now (Gone saw cut) h = h

gone_well : (grace saw cut : ℕ) → WellCut grace (Mercy saw cut) → WellCut grace (Gone saw cut)
gone_well grace saw cut h = h

step_well : (gate : Gate) (s t : Stage) → WellCut gate.grace s → Steps gate s t → WellCut gate.grace t
step_well gate s t h step =
    let there = run_out_well gate.grace gate.moment (noticed gate.tripped gate.moment s) (noticed_well gate.grace gate.tripped gate.moment s h) in
    ⊎_elim (λ a. subst (WellCut gate.grace) (sym a) there) (λ g. subst (WellCut gate.grace) (sym g.3) (gone_well gate.grace g.0 g.1 (subst (WellCut gate.grace) g.2 there))) step

runs_well : (grace : ℕ) (gates : List Gate) (s t : Stage) → HaveGrace grace gates → WellCut grace s → Runs gates s t → WellCut grace t
runs_well grace [] s t same h runs = subst (WellCut grace) (sym runs) h
runs_well grace (gate ∷ gates) s t same h runs =
    runs_well grace gates runs.0 t same.1 (subst (λ x. WellCut x runs.0) same.0 (step_well gate s runs.0 (subst (λ x. WellCut x s) (sym same.0) h) runs.1)) runs.2

well_said : (grace : ℕ) (s : Stage) (saw cut : ℕ) → WellCut grace s → saw_of s ≡ Some saw → cut_of s ≡ Some cut → grace ≤ cut - saw
well_said grace Active saw cut h a b = absurd (cc)
well_said grace (Grace m) saw cut h a b = absurd (cc)
well_said grace (Mercy m n) saw cut h a b = let first : m ≡ saw = cc in let second : n ≡ cut = cc in rw (← first, ← second) h
well_said grace (Gone m n) saw cut h a b = let first : m ≡ saw = cc in let second : n ≡ cut = cc in rw (← first, ← second) h

active_well : (grace : ℕ) → WellCut grace Active
active_well grace = tt

pub cut_after_grace : CutsAfterGrace
cut_after_grace grace gates s saw cut same runs a b = well_said grace s saw cut (runs_well grace gates Active s same (active_well grace) runs) a b
