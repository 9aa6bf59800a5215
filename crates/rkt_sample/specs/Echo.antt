-- What the guard of a text answers of a body.
use Rattle.std.specs.Prelude.{◌≡◌, ◌⊎◌, List, Some, None, String, string_bytes}
use Rattle.std.specs.declared.alloc.Global.{Global}
use Rattle.rkt_http.specs.declared.outcome.Outcome.TheVariants.{Success, Error, Forward}
use Rattle.rkt_request.specs.Guarding.{Guarded}
use Rattle.rkt_request.specs.Guards.{bad_request}
use Rattle.rkt_request.specs.Seen.{Seen}
use Rattle.rkt_request.specs.declared.from_data.GuardError.{GuardError}
use Rattle.rkt_source.specs.Source.{Meaning}
use Rattle.rkt_source.specs.declared.source.Gate.{Gate}
use Rattle.rkt_sample.specs.Bodies.{ReadsAll, SampleBody, string_limit, text_in, whole}

-- its text where it has one that fits, and else an error with 400, which comes too where a read may be refused
abbrev pub IsText : {V S : Type 0} → (S → Meaning) → Seen V → SampleBody S → List Gate
    → Guarded (SampleBody S) (String Global) GuardError → Type 0
IsText meaning request body gates (Success text) =
    text_in (string_limit request.config.limits) (whole meaning body) ≡ Some (string_bytes text)
IsText meaning request body gates (Error error) =
    (error.0 ≡ bad_request)
    × ((text_in (string_limit request.config.limits) (whole meaning body) ≡ None) ⊎ ¬ ReadsAll meaning body gates)
IsText meaning request body gates (Forward back) = ⊥
