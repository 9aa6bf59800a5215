-- How the reading of a text ends that was polled once.
use Rattle.std.proofs.Common.{◌≡◌, ◌<◌, ◌-◌, ◌++◌, ◌∷◌, ◌⊎◌, ℕ, Bool, true, false, IsTrue, List, [], Option, Some, None, Result, Ok, Err, String, string_bytes, length, ap, arith, length-append, refl, subst}
use Rattle.std.specs.declared.alloc.Global.{Global}
use Rattle.rkt_base.specs.declared.poll.Poll.TheVariants.{Ready}
use Rattle.rkt_source.specs.Cancel.{Cancellable}
use Rattle.rkt_data.specs.Body.{IsWhole, opened_tap}
use Rattle.rkt_data.specs.Gathering.{Completes, reads_end}
use Rattle.rkt_data.specs.CountedSource.{ByGate, Tapped}
use Rattle.rkt_data.specs.Text.{AnswersText, TextErr}
use Rattle.rkt_data.specs.declared.capped.Capped.{Capped}
use Rattle.rkt_data.specs.declared.error.DataError.{DataError}
use Rattle.rkt_request.specs.Guards.{Ends, IsReading, pended, pendings, read_of}
use Rattle.rkt_source.specs.Source.{Meaning}
use Rattle.rkt_source.specs.declared.source.Gate.{Gate}
use Rattle.rkt_sample.specs.Bodies.{ReadsAll, SampleBody, meaning_of, text_in, whole}
use Rattle.rkt_sample.proofs.Texts.{IsTold, Reading, ReadsOn, errs_so, reads_cut, reads_text}

-- a list of one element is split in one way
alone : (earlier : List Gate) (last gate : Gate) → gate ∷ [] ≡ earlier ++ last ∷ [] → (earlier ≡ []) × (last ≡ gate)
alone [] last gate is = (refl, cc is)
alone (first ∷ earlier) last gate is = absurd (omega (arith, ap length is, length-append earlier (last ∷ [])))

-- what the answer tells of the body's text
abbrev pub IsAnswer : {S : Type 0} → (S → Meaning) → ℕ → SampleBody S → Gate → Result (Capped (String Global)) DataError → Type 0
IsAnswer meaning limit b gate (Ok c) = ((c.n.complete ≡ true) × (text_in limit (whole meaning b) ≡ Some (string_bytes c.value))) ⊎ ((c.n.complete ≡ false) × (text_in limit (whole meaning b) ≡ None))
IsAnswer meaning limit b gate (Err e) = (text_in limit (whole meaning b) ≡ None) ⊎ ¬ ReadsAll meaning b (gate ∷ [])

module _ {S : Type 0} (meaning : S → Meaning) (told : IsTold meaning) (how : Reading S) (limit : ℕ) (b : SampleBody S) (gate : Gate)
    (is_whole : IsTrue b.complete → IsWhole (meaning_of meaning) b) where
  pub text_ended : (answer : Result (Capped (String Global)) DataError) → Ends (meaning_of meaning) (reads_cut how) (AnswersText (meaning_of meaning)) limit b (gate ∷ []) answer → IsAnswer meaning limit b gate answer
  text_ended answer ends =
      let one = alone ends.earlier ends.last gate ends.polls in
      let reading : IsReading (meaning_of meaning) (reads_cut how) limit b [] 0 ends.before = subst (λ (gates : List Gate). IsReading (meaning_of meaning) (reads_cut how) limit b gates 0 ends.before) one.0 ends.reading in
      let reads : ReadsOn meaning limit b ends.before.stream = record { front = reading.front; limit = reading.limit; tap = reading.source; is_whole = is_whole } in
      by_answer answer ends reads reading.from (subst (λ (g : Gate). ByGate (reads_cut how) g (reads_end (Ready answer)) ends.before.stream.tap ends.after.stream.tap) one.1 ends.by_gate)
    where
      by_answer : (answer : Result (Capped (String Global)) DataError) (ends : Ends (meaning_of meaning) (reads_cut how) (AnswersText (meaning_of meaning)) limit b (gate ∷ []) answer)
          → ReadsOn meaning limit b ends.before.stream → ends.before.from ≡ 0 → ByGate (reads_cut how) gate (reads_end (Ready answer)) ends.before.stream.tap ends.after.stream.tap → IsAnswer meaning limit b gate answer
      by_answer (Ok c) ends reads from by_gate = reads_text meaning told _ _ _ reads c (subst (λ (n : ℕ). Completes (meaning_of meaning) ends.before.stream n (string_bytes c.value) c.n) from ends.answers.1)
      by_answer (Err e) ends reads from by_gate =
          errs_so meaning told _ _ _ reads how gate ends.after.stream e (λ is. ends.cause (ap Err is)) by_gate (subst (λ (n : ℕ). TextErr (meaning_of meaning) n ends.before.stream ends.after.stream e) from ends.answers.2)

-- no read of a body is Pending, where none is of its source
pub never_pending : {S : Type 0} (meaning : S → Meaning) → ((s : S) → (meaning s).pendings ≡ 0) → (b : SampleBody S)
    → ¬ (0 < pendings (meaning_of meaning) (read_of b) - pended (meaning_of meaning) (read_of b))
never_pending {S} meaning none b = by_tap b.complete b.tap
  where
    by_tap : (complete : Bool) (tap : Option (Tapped (Cancellable S))) → ¬ (0 < pendings (meaning_of meaning) (opened_tap complete tap) - pended (meaning_of meaning) (opened_tap complete tap))
    by_tap true tap = λ more. absurd (omega (arith, more))
    by_tap false None = λ more. absurd (omega (arith, more))
    by_tap false (Some t) = λ more. absurd (omega (arith, more, none t.now.io))
