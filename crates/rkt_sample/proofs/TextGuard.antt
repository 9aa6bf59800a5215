-- What the guard of a text answers that was polled once.
use Rattle.std.proofs.Common.{◌≡◌, ◌∷◌, ℕ, [], Option, Some, None, IfOk, IsTrue, Result, Ok, Err, String, string_bytes, codes, ap, inl, inr, refl, subst, ◌∙◌}
use Rattle.std.specs.Option.{option_map_or}
use Rattle.std.specs.declared.alloc.Global.{Global}
use Rattle.rkt_base.specs.declared.poll.Poll.TheVariants.{Ready}
use Rattle.rkt_source.specs.Cancel.{Cancellable}
use Rattle.rkt_data.specs.Body.{IsWhole}
use Rattle.rkt_data.specs.Gathering.{Gathering}
use Rattle.rkt_data.specs.declared.capped.Capped.{Capped}
use Rattle.rkt_data.specs.declared.data_stream.ByteUnit.{ByteUnit}
use Rattle.rkt_data.specs.declared.error.DataError.{DataError}
use Rattle.rkt_request.specs.Guarding.{AnswersData, Guarded}
use Rattle.rkt_request.specs.Guards.{IsLimit, guard_map, or_bad_request, strict, text_guard}
use Rattle.rkt_request.specs.Seen.{Seen}
use Rattle.rkt_request.specs.declared.from_data.GuardError.{GuardError}
use Rattle.rkt_source.specs.Source.{Meaning}
use Rattle.rkt_source.specs.declared.source.Gate.{Gate}
use Rattle.rkt_sample.specs.Bodies.{SampleBody, meaning_of, string_limit, text_in, whole}
use Rattle.rkt_sample.specs.Echo.{IsText}
use Rattle.rkt_sample.proofs.Guarded.{IsAnswer, text_ended}
use Rattle.rkt_sample.proofs.Texts.{IsTold, Reading, reads_cut}
use Rattle.rkt_sample.proofs.Limits.{string_limit_is}

module _ {V S : Type 0} (meaning : S → Meaning) (request : Seen V) (b : SampleBody S) (gate : Gate) where
  limit_is : (limit : ℕ) → IsLimit (codes "string") 8192 request limit → limit ≡ string_limit request.config.limits
  limit_is limit is = is.2 ∙ ap (λ (found : Option ByteUnit). option_map_or (λ unit. unit.0) found 8192) (string_limit_is request.config.limits is.0 is.1)

  text_is : (limit : ℕ) (answer : Result (Capped (String Global)) DataError) → limit ≡ string_limit request.config.limits → IsAnswer meaning limit b gate answer → IsText meaning request b (gate ∷ []) (strict (or_bad_request answer))
  text_is limit (Ok c) same (inl told) = rw told.0 (subst (λ (n : ℕ). text_in n (whole meaning b) ≡ Some (string_bytes c.value)) same told.1)
  text_is limit (Ok c) same (inr untold) = rw untold.0 (refl, inl (subst (λ (n : ℕ). text_in n (whole meaning b) ≡ None) same untold.1))
  text_is limit (Err e) same (inl untold) = (refl, inl (subst (λ (n : ℕ). text_in n (whole meaning b) ≡ None) same untold))
  text_is limit (Err e) same (inr refused) = (refl, inr refused)

  module _ (told : IsTold meaning) (how : Reading S) (is_whole : IsTrue b.complete → IsWhole (meaning_of meaning) b) where
    pub text_guarded : {W : Type 0} (answer : Result (Guarded (SampleBody S) (String Global) GuardError) W) (reading : Gathering (Cancellable S))
        → AnswersData (guard_map strict (text_guard (meaning_of meaning) (reads_cut how))) request b (gate ∷ []) 0 (Ready answer) reading → IfOk answer (IsText meaning request b (gate ∷ []))
    text_guarded (Ok outcome) reading is =
        let inner = is.1 in
        let ended = inner.2 in
        rw (is.2, ended.2) (text_is inner.0 ended.0 (limit_is inner.0 inner.1) (text_ended meaning told how inner.0 b gate is_whole ended.0 ended.1))
    text_guarded (Err e) reading is = tt
