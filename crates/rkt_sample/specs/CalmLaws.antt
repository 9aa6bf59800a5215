-- What is not cut off: calls of the machine under Gates of a calm rule, and reads under one Gate of what is open.
use Rattle.std.specs.Prelude.{◌≡◌, ◌≤◌, ◌<◌, ◌-◌, ◌++◌, ◌∷◌, [], ℕ, nat_le, List, Bool, true, false, Option, None, Some, IsNone, Result, Err, if◌then◌else◌}
use Rattle.std.specs.List.{All}
use Rattle.std.specs.Option.{IfSome}
use Rattle.std.proofs.Common.{⊎_elim, ap, arith, inl, inr, refl, subst, sym, ◌∙◌}
use Rattle.std.proofs.lemmas.Bool.{false≢true, leb-false, leb-true}
use Rattle.std.proofs.lemmas.List.Elements.{All-head, All-tail}
use Rattle.rkt_base.specs.declared.poll.Poll.{Poll}
use Rattle.rkt_base.specs.declared.poll.Poll.TheVariants.{Ready}
use Rattle.rkt_source.specs.Cancel.{Cancellable, ClosedAt, ReadsCut, Runs, Steps, advanced, is_gone, is_open, noticed, run_out}
use Rattle.rkt_source.specs.declared.stage.Refused.{Refused}
use Rattle.rkt_source.specs.declared.stage.Stage.{Stage}
use Rattle.rkt_source.specs.declared.stage.Stage.TheVariants.{Active, Grace, Mercy, Gone}
use Rattle.rkt_data.specs.CountedSource.{Polls, PollsTo}
use Rattle.rkt_router.specs.Calls.{GateFits, GateRule, InWindow}
use Rattle.rkt_source.specs.Source.{Polled, ReadOnce}
use Rattle.rkt_source.specs.declared.source.Gate.{Gate}
use Rattle.rkt_source.specs.declared.source.SourceError.{SourceError}
use Rattle.rkt_sample.specs.Calm.{IsCalm, IsWithinGrace, KeepsOpen, StillOpen}

-- what is open is not gone
pub not_gone : (s : Stage) → is_open s ≡ true → is_gone s ≡ false
not_gone Active goes = refl
not_gone (Grace saw) goes = refl
not_gone (Mercy saw cut) goes = refl
not_gone (Gone saw cut) goes = absurd (false≢true goes)

pub still_not_gone : (rule : GateRule) (s : Stage) → StillOpen rule s → is_gone s ≡ false
still_not_gone rule Active goes = refl
still_not_gone rule (Grace saw) goes = refl
still_not_gone rule (Mercy saw cut) goes = refl
still_not_gone rule (Gone saw cut) goes = absurd goes

-- the grace goes on as long as less of it has gone by
grace_stays : (grace now saw : ℕ) → now - saw < grace → run_out grace now (Grace saw) ≡ Grace saw
grace_stays grace now saw early = by_test (nat_le grace (now - saw)) refl
  where
    by_test : (b : Bool) → nat_le grace (now - saw) ≡ b → (if b then Mercy saw now else Grace saw) ≡ Grace saw
    by_test true is = let late = leb-true grace (now - saw) is in absurd (omega (arith, late, early))
    by_test false is = refl

-- of moments that are all within one grace none is as late as the grace after another
early_within : (window delays : Option (ℕ × ℕ)) (grace mercy moment saw : ℕ)
    → IsWithinGrace window delays
    → InWindow window moment
    → IfSome delays (λ d. (grace ≡ d.0) × (mercy ≡ d.1))
    → IfSome window (λ w. w.0 ≤ saw)
    → moment - saw < grace
early_within None delays grace mercy moment saw short within same from = absurd short
early_within (Some window) None grace mercy moment saw short within same from = absurd short
early_within (Some window) (Some delays) grace mercy moment saw short within same from =
    let first = within.0 in let last = within.1 in let is = same.0 in omega (arith, short, first, last, is, from)

from_within : (window : Option (ℕ × ℕ)) (moment : ℕ) → InWindow window moment → IfSome window (λ w. w.0 ≤ moment)
from_within None moment within = tt
from_within (Some window) moment within = within.0

module _ (rule : GateRule) (calm : IsCalm rule) where
  short_where_tripped : rule.may_trip ≡ true → IsWithinGrace rule.window rule.delays
  short_where_tripped may =
      ⊎_elim (λ (never : rule.may_trip ≡ false). absurd (false≢true (sym never ∙ may))) (λ short. short) calm

  early : (gate : Gate)
      → GateFits rule gate
      → (saw : ℕ)
      → rule.may_trip ≡ true
      → IfSome rule.window (λ w. w.0 ≤ saw)
      → gate.moment - saw < gate.grace
  early gate fits saw may from =
      early_within rule.window rule.delays gate.grace gate.mercy gate.moment saw
      (short_where_tripped may) fits.moment fits.delays from

  -- what a call under such a Gate makes of the stage
  abbrev Stays : Stage → Type 0
  Stays t = (is_open t ≡ true) × StillOpen rule t

  in_grace : (gate : Gate)
      → GateFits rule gate
      → (saw : ℕ)
      → rule.may_trip ≡ true
      → IfSome rule.window (λ w. w.0 ≤ saw)
      → Stays (run_out gate.grace gate.moment (Grace saw))
  in_grace gate fits saw may from =
      subst Stays (sym (grace_stays gate.grace gate.moment saw (early gate fits saw may from))) (refl, (may, from))

  noticed_so : (gate : Gate)
      → GateFits rule gate
      → (may : Bool)
      → rule.may_trip ≡ may
      → (trip : Option ℕ)
      → gate.tripped ≡ trip
      → Stays (run_out gate.grace gate.moment (noticed trip gate.moment Active))
  noticed_so gate fits may is None shows = (refl, tt)
  noticed_so gate fits true is (Some word) shows =
      in_grace gate fits gate.moment is (from_within rule.window gate.moment fits.moment)
  noticed_so gate fits false is (Some word) shows =
      let none : IsNone (Some word) = subst (λ (trip : Option ℕ). IsNone trip) shows (fits.trip is) in absurd (cc none)

  -- a call under a Gate of a calm rule is not refused
  pub calm_step : (gate : Gate) → GateFits rule gate → (s : Stage) → StillOpen rule s → Stays (advanced gate s)
  calm_step gate fits Active goes = noticed_so gate fits rule.may_trip refl gate.tripped refl
  calm_step gate fits (Grace saw) goes = in_grace gate fits saw goes.0 goes.1
  calm_step gate fits (Mercy saw cut) goes = absurd goes
  calm_step gate fits (Gone saw cut) goes = absurd goes

  pub keeps_open : (gates : List Gate) → All (GateFits rule) gates → (s : Stage) → StillOpen rule s → KeepsOpen gates s
  keeps_open [] fit s goes = tt
  keeps_open (gate ∷ gates) fit s goes =
      let step = calm_step gate (All-head (GateFits rule) gate gates fit) s goes in
      (step.0, keeps_open gates (All-tail (GateFits rule) gate gates fit) (advanced gate s) step.1)

  stepped : (gate : Gate) (s t : Stage) → Stays (advanced gate s) → Steps gate s t → StillOpen rule t
  stepped gate s t stays (inl is) = subst (StillOpen rule) (sym is) stays.1
  stepped gate s t stays (inr ended) = absurd (false≢true (subst (λ (stage : Stage). is_open stage ≡ true) ended.2 stays.0))

  -- calls under Gates of a calm rule lead on from there, and none is refused
  pub runs_open : (gates : List Gate) → All (GateFits rule) gates → (s t : Stage) → StillOpen rule s → Runs gates s t
      → StillOpen rule t
  runs_open [] fit s t goes runs = subst (StillOpen rule) (sym runs) goes
  runs_open (gate ∷ gates) fit s t goes runs =
      let stays = calm_step gate (All-head (GateFits rule) gate gates fit) s goes in
      runs_open gates (All-tail (GateFits rule) gate gates fit) runs.0 t (stepped gate s runs.0 stays runs.1) runs.2

-- what is open in a call under a Gate is open in the next one under it
again_at : (gate : Gate) (saw : ℕ) (b : Bool)
    → nat_le gate.grace (gate.moment - saw) ≡ b
    → is_open (if b then Mercy saw gate.moment else Grace saw) ≡ true
    → is_open (advanced gate (if b then Mercy saw gate.moment else Grace saw)) ≡ true
again_at gate saw true is goes = absurd (false≢true goes)
again_at gate saw false is goes =
    ap is_open (grace_stays gate.grace gate.moment saw (leb-false gate.grace (gate.moment - saw) is))

again_open : (gate : Gate) (s : Stage) → is_open (advanced gate s) ≡ true → is_open (advanced gate (advanced gate s)) ≡ true
again_open gate Active goes = by_trip gate.tripped goes
  where
    by_trip : (trip : Option ℕ)
        → is_open (run_out gate.grace gate.moment (noticed trip gate.moment Active)) ≡ true
        → is_open (advanced gate (run_out gate.grace gate.moment (noticed trip gate.moment Active))) ≡ true
    by_trip None now = goes
    by_trip (Some word) now = again_at gate gate.moment (nat_le gate.grace (gate.moment - gate.moment)) refl now
again_open gate (Grace saw) goes = again_at gate saw (nat_le gate.grace (gate.moment - saw)) refl goes
again_open gate (Mercy saw cut) goes = absurd (false≢true goes)
again_open gate (Gone saw cut) goes = absurd (false≢true goes)

-- what is open in the grace was called early
open_early : (gate : Gate) (saw : ℕ)
    → is_open (run_out gate.grace gate.moment (Grace saw)) ≡ true
    → gate.moment - saw < gate.grace
open_early gate saw goes = by_test (nat_le gate.grace (gate.moment - saw)) refl goes
  where
    by_test : (b : Bool)
        → nat_le gate.grace (gate.moment - saw) ≡ b
        → is_open (if b then Mercy saw gate.moment else Grace saw) ≡ true
        → gate.moment - saw < gate.grace
    by_test true is now = absurd (false≢true now)
    by_test false is now = leb-false gate.grace (gate.moment - saw) is

-- a call that is not refused behind others would not be refused before them
before_any : (gate : Gate) (s : Stage)
    → is_open s ≡ true
    → is_open (advanced gate s) ≡ true
    → is_open (advanced gate Active) ≡ true
before_any gate Active here goes = goes
before_any gate (Grace saw) here goes = by_trip gate.tripped
  where
    by_trip : (trip : Option ℕ) → is_open (run_out gate.grace gate.moment (noticed trip gate.moment Active)) ≡ true
    by_trip None = refl
    by_trip (Some word) = ap is_open (grace_stays gate.grace gate.moment gate.moment (let early = open_early gate saw goes in
        omega (arith, early)))
before_any gate (Mercy saw cut) here goes = absurd (false≢true here)
before_any gate (Gone saw cut) here goes = absurd (false≢true here)

before_one : (first gate : Gate) (s : Stage)
    → is_open (advanced first s) ≡ true
    → is_open (advanced gate (advanced first s)) ≡ true
    → is_open (advanced gate s) ≡ true
before_one first gate Active here goes = before_any gate (advanced first Active) here goes
before_one first gate (Grace saw) here goes =
    subst (λ (stage : Stage). is_open (advanced gate stage) ≡ true)
    (grace_stays first.grace first.moment saw (open_early first saw here)) goes
before_one first gate (Mercy saw cut) here goes = absurd (false≢true here)
before_one first gate (Gone saw cut) here goes = absurd (false≢true here)

pub last_open : (gates : List Gate) (gate : Gate) (s : Stage)
    → KeepsOpen (gates ++ gate ∷ []) s
    → is_open (advanced gate s) ≡ true
last_open [] gate s goes = goes.0
last_open (first ∷ gates) gate s goes = before_one first gate s goes.0 (last_open gates gate (advanced first s) goes.1)

module _ {S : Type 0} (shuts : S → Poll (Unit {0}) → S → Type 0) (polled : Polled S) (gate : Gate) where
  -- how a source is read that may be cut off
  abbrev pub Cut : Polled (Cancellable S)
  Cut = ReadsCut shuts polled

  not_closed_at : (t : Stage) (io : S) (after : Cancellable S) (refusal : Poll Refused)
      → is_open t ≡ true
      → ClosedAt shuts gate t io after refusal
      → ⊥
  not_closed_at Active io after refusal goes closed = closed
  not_closed_at (Grace saw) io after refusal goes closed = closed
  not_closed_at (Mercy saw cut) io after refusal goes closed = false≢true goes
  not_closed_at (Gone saw cut) io after refusal goes closed = false≢true goes

  read_open : (answer : Poll (Result ℕ SourceError)) (s t : Cancellable S)
      → is_open (advanced gate s.stage) ≡ true
      → ReadOnce Cut gate answer s t
      → t.stage ≡ advanced gate s.stage
  read_open answer s t goes read =
      ⊎_elim (λ through. through.1)
      (λ refused. absurd (not_closed_at (advanced gate s.stage) s.io t refused.0 goes refused.1)) read.2

  polls_open : {s t : Cancellable S}
      → Polls Cut gate s t
      → is_open (advanced gate s.stage) ≡ true
      → is_open (advanced gate t.stage) ≡ true
  polls_open Polls.none goes = goes
  polls_open (Polls.more {t = t} {u = u} earlier some read) goes =
      let here = polls_open earlier goes in
      subst (λ (stage : Stage). is_open (advanced gate stage) ≡ true) (sym (read_open _ t u here read))
      (again_open gate t.stage here)

  -- reads under one Gate of what is open there, of which the last one erred, leave it open
  pub errs_open : (e : SourceError) (s t : Cancellable S)
      → PollsTo Cut gate (Ready (Err e)) s t
      → is_open (advanced gate s.stage) ≡ true
      → is_open t.stage ≡ true
  errs_open e s t reads goes =
      let here = polls_open reads.1 goes in
      subst (λ (stage : Stage). is_open stage ≡ true) (sym (read_open (Ready (Err e)) reads.0 t here reads.2)) here
