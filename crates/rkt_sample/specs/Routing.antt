-- How the routes of the sample are called: each is done at its first poll.
use Rattle.std.specs.Prelude.{◌≡◌, ◌⊎◌, ℕ, Bool, true, false, IsTrue, List, Option, IfSome}
use Rattle.rkt_http.specs.declared.outcome.Outcome.TheVariants.{Error}
use Rattle.rkt_request.specs.Guards.{bad_request}
use Rattle.rkt_request.specs.Lent.{Kept}
use Rattle.rkt_router.specs.Callbacks.{Handed, Reply}
use Rattle.rkt_router.specs.Calling.{Calling}
use Rattle.rkt_source.specs.Source.{Meaning}
use Rattle.rkt_source.specs.declared.source.Gate.{Gate}
use Rattle.rkt_sample.specs.Bodies.{ReadsAll, SampleBody}
use Rattle.rkt_sample.specs.Replies.{left_by, reply_of}
use Rattle.rkt_sample.specs.declared.route.SampleRoute.{SampleRoute}
use Rattle.rkt_sample.specs.declared.route.SampleRoute.TheVariants as route

-- whether a route reads the body
abbrev pub reads_body : SampleRoute → Bool
reads_body route.Echo = true
reads_body _ = false

-- it does, and a read may be refused
abbrev pub MayBeRefused : {S : Type 0} → (S → Meaning) → SampleRoute → SampleBody S → List Gate → Type 0
MayBeRefused meaning route body gates = IsTrue (reads_body route) × ¬ ReadsAll meaning body gates

-- a route replies just this, or errs with 400 where a read may be refused
abbrev pub Replies : {V S R : Type 0} → (S → Meaning) → SampleRoute → Handed V (SampleBody S) → List Gate
    → Reply R (SampleBody S) → Type 0
Replies meaning route handed gates reply =
    (reply ≡ reply_of meaning route handed) ⊎ ((reply ≡ Error bad_request) × MayBeRefused meaning route handed.body gates)

-- and leaves just that, where `/stop` tells this word
abbrev pub MayReply : {V S C R : Type 0} → (S → Meaning) → ℕ → SampleRoute → Handed V (SampleBody S) → Kept C → List Gate
    → Reply R (SampleBody S) → Kept C → Type 0
MayReply meaning word route handed before gates reply after =
    Replies meaning route handed gates reply × (after ≡ left_by word route before)

-- a call has the body that it was handed, until it is done or there was no memory
abbrev pub Holds : {S : Type 0} → SampleBody S → Option (SampleBody S) → Type 0
Holds handed task = IfSome task (λ body. body ≡ handed)

abbrev pub route_calling : {V S C R : Type 0}
    → (S → Meaning)
    → ℕ
    → Calling SampleRoute (Handed V (SampleBody S)) (Kept C) (Reply R (SampleBody S)) (Option (SampleBody S))
route_calling meaning word = record {
  may = MayReply meaning word;
  begun = λ route handed task before now gates n. Holds handed.body task × (now ≡ before) × (n ≡ 0);
  pendings = λ route handed before. 0;
  may_fault = λ route handed before. ⊥;
}
