-- How the reads of a peek move the machine of a source that may be cut off.
use Rattle.std.specs.Prelude.{◌++◌, ◌∷◌, [], ℕ, true, false, List, Option, Some, None, Result, Ok, Err}
use Rattle.std.specs.List.{All}
use Rattle.std.proofs.Common.{⊎_elim, inl, refl, subst}
use Rattle.std.proofs.lemmas.List.Elements.{All-append, All-cons, All-nil}
use Rattle.rkt_base.specs.declared.poll.Poll.{Poll}
use Rattle.rkt_base.specs.declared.poll.Poll.TheVariants.{Pending, Ready}
use Rattle.rkt_source.specs.Cancel.{Cancellable, Runs, Steps}
use Rattle.rkt_source.specs.declared.stage.Stage.{Stage}
use Rattle.rkt_source.proofs.Cancels.{Runs-more, arrives_steps}
use Rattle.rkt_data.specs.Body.{Body, PeeksByGate}
use Rattle.rkt_data.specs.CountedSource.{ByGate, Ending, Polls, PollsBefore, PollsTo, Tapped}
use Rattle.rkt_router.specs.Calls.{GateFits, GateRule}
use Rattle.rkt_source.specs.declared.source.Gate.{Gate}
use Rattle.rkt_source.specs.declared.source.SourceError.{SourceError}
use Rattle.rkt_exchange.specs.Peeks.{RanBy, cut_reads}
use Rattle.rkt_source.specs.Source.{Polled, ReadOnce}

-- calls, and others behind them
runs_on : (gates more : List Gate) (s t u : Stage) → Runs gates s t → Runs more t u → Runs (gates ++ more) s u
runs_on [] more s t u first rest = subst (λ (stage : Stage). Runs more stage u) first rest
runs_on (gate ∷ gates) more s t u first rest = (first.0, first.1, runs_on gates more first.0 t u first.2 rest)

-- calls under Gates of a rule led from one stage to another
abbrev Ran : GateRule → Stage → Stage → Type 0
Ran rule s t = (gates : List Gate) × All (GateFits rule) gates × Runs gates s t

ran_on : (rule : GateRule) (s t u : Stage) → Ran rule s t → Ran rule t u → Ran rule s u
ran_on rule s t u first rest = (first.0 ++ rest.0, All-append (GateFits rule) first.0 rest.0 first.1 rest.1, runs_on first.0 rest.0 s t u first.2 rest.2)

pub taps_run_on : {S : Type 0} (rule : GateRule) (a b c : Option (Tapped (Cancellable S))) → RanBy rule a b → RanBy rule b c → RanBy rule a c
taps_run_on rule None None c first rest = rest
taps_run_on rule None (Some b) c first rest = absurd first
taps_run_on rule (Some a) None c first rest = absurd first
taps_run_on rule (Some a) (Some b) None first rest = absurd rest
taps_run_on rule (Some a) (Some b) (Some c) first rest = ran_on rule a.now.stage b.now.stage c.now.stage first rest

module _ {S : Type 0} (shuts : S → Poll (Unit {0}) → S → Type 0) (polled : Polled S) (rule : GateRule) (gate : Gate) (fits : GateFits rule gate) where
  read_steps : (answer : Poll (Result ℕ SourceError)) (s t : Cancellable S) → ReadOnce (cut_reads shuts polled) gate answer s t → Steps gate s.stage t.stage
  read_steps answer s t read = ⊎_elim (λ through. inl through.1) (λ refused. arrives_steps shuts gate s t (Some refused.0) refused.1) read.2

  ran_more : (s t u : Stage) → Ran rule s t → Steps gate t u → Ran rule s u
  ran_more s t u ran step =
      (ran.0 ++ gate ∷ [], All-append (GateFits rule) ran.0 (gate ∷ []) ran.1 (All-cons (GateFits rule) gate [] fits (All-nil (GateFits rule))), Runs-more gate ran.0 s t u ran.2 step)

  polls_run : {s t : Cancellable S} → Polls (cut_reads shuts polled) gate s t → Ran rule s.stage t.stage
  polls_run Polls.none = ([], All-nil (GateFits rule), refl)
  polls_run (Polls.more {s = s} {t = t} {u = u} earlier some read) = ran_more s.stage t.stage u.stage (polls_run earlier) (read_steps _ t u read)

  before_run : (answer : Poll (Result ℕ SourceError)) (s t : Cancellable S) → PollsBefore (cut_reads shuts polled) gate answer s t → Ran rule s.stage t.stage
  before_run answer s t reads = ran_more s.stage reads.0.stage t.stage (polls_run reads.1) (read_steps answer reads.0 t reads.2)

  polls_to_run : (how : Ending) (s t : Cancellable S) → PollsTo (cut_reads shuts polled) gate how s t → Ran rule s.stage t.stage
  polls_to_run Pending s t reads = before_run Pending s t reads
  polls_to_run (Ready (Ok false)) s t reads = polls_run reads
  polls_to_run (Ready (Ok true)) s t reads = ⊎_elim (λ more. polls_run more) (λ end. before_run (Ready (Ok 0)) s t end) reads
  polls_to_run (Ready (Err e)) s t reads = before_run (Ready (Err e)) s t reads

  -- reads under one Gate are calls under it
  pub tap_runs : (how : Ending) (a b : Option (Tapped (Cancellable S))) → ByGate (cut_reads shuts polled) gate how a b → RanBy rule a b
  tap_runs how None None reads = tt
  tap_runs how None (Some b) reads = absurd reads
  tap_runs how (Some a) None reads = absurd reads
  tap_runs how (Some a) (Some b) reads = polls_to_run how a.now b.now reads

  -- so are those of a peek
  pub peek_runs : (b c : Body (Cancellable S)) → PeeksByGate {X = Unit {0}} (cut_reads shuts polled) gate (Ready tt) b c → RanBy rule b.tap c.tap
  peek_runs b c reads = ⊎_elim (λ more. tap_runs (Ready (Ok c.complete)) b.tap c.tap more) (λ refused. tap_runs (Ready (Err refused.0)) b.tap c.tap refused.1) reads
