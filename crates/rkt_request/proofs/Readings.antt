-- Polls of a state that gathers a body, and what they make of a guard's reading.
use Rattle.std.proofs.Common.{◌≡◌, ◌≢◌, ℕ, ◌+◌, ◌-◌, ◌<◌, ◌≤◌, ◌++◌, List, [], ◌∷◌, Option, Some, None, Result, Ok, Err, false, refl, ◌∙◌, arith}
use Rattle.std.specs.Result.{MatchResult}
use Rattle.rkt_base.specs.declared.poll.Poll.{Poll}
use Rattle.rkt_base.specs.declared.poll.Poll.TheVariants.{Ready, Pending}
use Rattle.rkt_data.specs.Body.{Body}
use Rattle.rkt_data.specs.Gathering.{Gathering, reads_end}
use Rattle.rkt_source.specs.Source.{Meaning, Polled}
use Rattle.rkt_data.specs.Stream.{Follows, PullsAtMost}
use Rattle.rkt_data.specs.CountedSource.{Tapped, SameTap, ByGate, TapWaits}
use Rattle.rkt_data.specs.declared.error.DataError.{DataError}
use Rattle.rkt_data.specs.declared.error.DataError.TheVariants.{NoMemory}
use Rattle.rkt_source.specs.declared.source.Gate.{Gate}
use Rattle.rkt_source.specs.declared.source.SourceError.{SourceError}
use Rattle.rkt_request.specs.Guarding.{AnswersData, Guarded}
use Rattle.rkt_request.specs.Guards.{Leads, IsReading, capped_guard, or_bad_request, pended, pendings, read_of}
use Rattle.rkt_request.specs.Seen.{Seen}
use Rattle.rkt_request.specs.declared.from_data.GuardError.{GuardError}

module _ {S : Type 0} (meaning : S → Meaning) (polled : Polled S) where
  -- one poll more
  pub leads-more : (gates : List Gate) (gate : Gate) (t u v : Option (Tapped S)) → Leads meaning polled gates t u → SameTap meaning gate.tripped u v → ByGate polled gate Pending u v → Leads meaning polled (gates ++ gate ∷ []) t v
  leads-more [] gate t u v leads same by = (v, rw leads at same, rw leads at by, refl)
  leads-more (g ∷ gates) gate t u v leads same by = (leads.0, leads.1, leads.2, leads-more gates gate leads.0 u v leads.3 same by)

  -- a bound on Pendings never changes
  pendings-same : (trip : Option ℕ) (t u : Option (Tapped S)) → SameTap meaning trip t u → pendings meaning u ≡ pendings meaning t
  pendings-same trip None None same = refl
  pendings-same trip None (Some u) same = absurd same
  pendings-same trip (Some t) None same = absurd same
  pendings-same trip (Some t) (Some u) same = same.1.pendings

  pub pendings-leads : (gates : List Gate) (t u : Option (Tapped S)) → Leads meaning polled gates t u → pendings meaning u ≡ pendings meaning t
  pendings-leads [] t u leads = rw leads refl
  pendings-leads (gate ∷ gates) t u leads = pendings-leads gates leads.0 u leads.3 ∙ pendings-same gate.tripped t leads.0 leads.1

  -- a Pending is counted, and fits the bound
  waits_counted : (t u : Option (Tapped S)) → TapWaits meaning t u → (pended meaning t < pended meaning u) × (pended meaning u ≤ pendings meaning t)
  waits_counted None u waits = absurd waits
  waits_counted (Some t) None waits = absurd waits
  waits_counted (Some t) (Some u) waits = waits

  -- after a poll that was Pending
  pub reading-waits : (most : ℕ) (body : Body S) (gates : List Gate) (gate : Gate) (n : ℕ) (a b : Gathering S) → IsReading meaning polled most body gates n a → b.from ≡ a.from
      → Follows meaning gate.tripped a.stream b.stream → ByGate polled gate Pending a.stream.tap b.stream.tap → PullsAtMost meaning b.stream → b.failed ≡ None → b.done ≡ false → TapWaits meaning a.stream.tap b.stream.tap
      → (n < pendings meaning (read_of body) - pended meaning (read_of body)) × IsReading meaning polled most body (gates ++ gate ∷ []) (n + 1) b
  reading-waits most body gates gate n a b reading from follows by bound failed done waits =
      let counted = waits_counted a.stream.tap b.stream.tap waits in
      let same = pendings-leads gates (read_of body) a.stream.tap reading.source in
      let waited = reading.waited in (
        omega (arith, counted.0, counted.1, same, waited),
        record {
          front = follows.front ∙ reading.front;
          limit = follows.limit ∙ reading.limit;
          from = from ∙ reading.from;
          failed = failed;
          done = done;
          source = leads-more gates gate (read_of body) a.stream.tap b.stream.tap reading.source follows.tap by;
          waited = omega (arith, counted.0, waited);
          bound = bound;
        },
      )

module _ {V S X W : Type 0} (meaning : S → Meaning) (polled : Polled S) (Answers : (S → Meaning) → Gathering S → Gathering S → Poll (Result X DataError) → Type 0) (name : List ℕ) (otherwise : ℕ) where
  -- after the last poll
  pub capped-ends : (request : Seen V) (body : Body S) (gates : List Gate) (gate : Gate) (n : ℕ) (a b : Gathering S) (answer : Result X DataError) (outcome : Result (Guarded (Body S) X GuardError) W)
      → (capped_guard {V = V} meaning polled (Answers meaning) name otherwise).begun request body gates n a
      → Follows meaning gate.tripped a.stream b.stream → ByGate polled gate (reads_end (Ready answer)) a.stream.tap b.stream.tap → PullsAtMost meaning b.stream → Answers meaning a b (Ready answer)
      → MatchResult outcome (λ o. (o ≡ or_bad_request answer) × (answer ≢ Err NoMemory)) (λ _. answer ≡ Err NoMemory)
      → AnswersData (capped_guard {V = V} meaning polled (Answers meaning) name otherwise) request body (gates ++ gate ∷ []) n (Ready outcome) b
  capped-ends request body gates gate n a b answer (Err e) begun follows by bound answers made = tt
  capped-ends request body gates gate n a b answer (Ok o) begun follows by bound answers made =
      let reading = begun.2 in
      let waited = reading.waited in (
        begun.0,
        begun.1,
        (
          answer,
          record {
            earlier = gates;
            last = gate;
            polls = refl;
            before = a;
            after = b;
            reading = record {
              front = reading.front;
              limit = reading.limit;
              from = reading.from;
              failed = reading.failed;
              done = reading.done;
              source = reading.source;
              waited = omega (arith, waited);
              bound = reading.bound;
            };
            follows = follows;
            by_gate = by;
            bound = bound;
            answers = answers;
            cause = made.1;
          },
          made.0,
        ),
      )
