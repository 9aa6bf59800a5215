-- What the data guards of this crate answer.
use Rattle.std.specs.Prelude.{◌≡◌, ◌≢◌, ℕ, ◌+◌, ◌-◌, ◌≤◌, ◌++◌, ◌∷◌, [], false, List, Option, Some, None, Result, Ok, Err, if◌then◌else◌, String, string_bytes, Vec, codes}
use Rattle.std.specs.Option.{option_map_or}
use Rattle.std.specs.declared.alloc.Global.{Global}
use Rattle.rkt_base.specs.declared.poll.Poll.{Poll}
use Rattle.rkt_base.specs.declared.poll.Poll.TheVariants.{Ready, Pending}
use Rattle.rkt_data.specs.Body.{Body, opened_tap}
use Rattle.rkt_data.specs.Gathering.{Gathering, GathersBytes, reads_end}
use Rattle.rkt_source.specs.Source.{Meaning, Polled}
use Rattle.rkt_data.specs.Stream.{Follows, PullsAtMost}
use Rattle.rkt_data.specs.Text.{AnswersText}
use Rattle.rkt_data.specs.CountedSource.{Tapped, SameTap, ByGate}
use Rattle.rkt_data.specs.declared.capped.Capped.{Capped}
use Rattle.rkt_data.specs.declared.data_stream.ByteUnit.{ByteUnit}
use Rattle.rkt_data.specs.declared.error.DataError.{DataError}
use Rattle.rkt_data.specs.declared.error.DataError.TheVariants.{NoMemory}
use Rattle.rkt_source.specs.declared.source.Gate.{Gate}
use Rattle.rkt_source.specs.declared.source.SourceError.{SourceError}
use Rattle.rkt_http.specs.Outcome.{MatchOutcome, IsErrorAnd}
use Rattle.rkt_http.specs.declared.outcome.Outcome.{Outcome}
use Rattle.rkt_http.specs.declared.outcome.Outcome.TheVariants.{Success, Error, Forward}
use Rattle.rkt_http.specs.declared.status.Status.{Status}
use Rattle.rkt_request.specs.Guarding.{Guarded, Guarding}
use Rattle.rkt_config.specs.Limits.{IsLimitOf}
use Rattle.rkt_request.specs.Seen.{Seen}
use Rattle.rkt_request.specs.declared.from_data.GuardError.{GuardError}
use Rattle.rkt_request.specs.declared.from_data.GuardError.TheVariants.{Io, LimitExceeded}
use Rattle.rkt_request.specs.declared.from_text.Parsed.{Parsed}
use Rattle.rkt_request.specs.declared.from_text.TextError.{TextError}
use Rattle.rkt_request.specs.declared.from_text.TextError.TheVariants as text_error

abbrev pub bad_request : Status
bad_request = record { code = 400 }

-- the limit that a configuration has for a name, or else this one
abbrev pub IsLimit : {V : Type 0} → List ℕ → ℕ → Seen V → ℕ → Type 0
IsLimit name otherwise request limit =
    (found : Option ByteUnit)
    × IsLimitOf request.config.limits name found
    × (limit ≡ option_map_or (λ unit. unit.0) found otherwise)

-- the source that a body is read from: none, where all that it has is held
abbrev pub read_of : {S : Type 0} → Body S → Option (Tapped S)
read_of body = opened_tap body.complete body.tap

-- how many polls of a source were Pending, and how many may be
abbrev pub pended : {S : Type 0} → (S → Meaning) → Option (Tapped S) → ℕ
pended meaning tap = option_map_or (λ t. (meaning t.now).pended) tap 0

abbrev pub pendings : {S : Type 0} → (S → Meaning) → Option (Tapped S) → ℕ
pendings meaning tap = option_map_or (λ t. (meaning t.now).pendings) tap 0

module _ {S : Type 0} (meaning : S → Meaning) (polled : Polled S) where
  -- reads under each of these Gates in turn, the last of each Pending, lead a body's source from the first to the second
  abbrev pub Leads : List Gate → Option (Tapped S) → Option (Tapped S) → Type 0
  Leads [] t u = u ≡ t
  Leads (gate ∷ gates) t u =
      (v : Option (Tapped S)) × SameTap meaning gate.tripped t v × ByGate polled gate Pending t v × Leads gates v u

  -- a state gathers the whole body up to this limit; it was polled under these Gates, and the source was Pending n
  -- times at least
  pub record IsReading (most : ℕ) (body : Body S) (gates : List Gate) (n : ℕ) (reading : Gathering S) : Type 0 where
    pub front : reading.stream.front ≡ body.held
    pub limit : reading.stream.limit ≡ most
    pub from : reading.from ≡ 0
    pub failed : reading.failed ≡ None
    pub done : reading.done ≡ false
    pub source : Leads gates (read_of body) reading.stream.tap
    pub waited : n + pended meaning (read_of body) ≤ pended meaning reading.stream.tap
    pub bound : PullsAtMost meaning reading.stream

  -- the last of these polls has given an answer, which is not want of memory, as such a state answers
  pub record Ends {X : Type 0} (Answers : Gathering S → Gathering S → Poll (Result X DataError) → Type 0) (most : ℕ)
      (body : Body S) (gates : List Gate) (answer : Result X DataError) : Type 0 where
    pub earlier : List Gate
    pub last : Gate
    pub polls : gates ≡ earlier ++ last ∷ []
    pub before : Gathering S
    pub after : Gathering S
    pub reading : IsReading most body earlier 0 before
    pub follows : Follows meaning last.tripped before.stream after.stream
    pub by_gate : ByGate polled last (reads_end (Ready answer)) before.stream.tap after.stream.tap
    pub bound : PullsAtMost meaning after.stream
    pub answers : Answers before after (Ready answer)
    pub cause : answer ≢ Err NoMemory

-- the value, or an error with 400
abbrev pub or_bad_request : {X F : Type 0} → Result X DataError → Outcome X (Status × GuardError) F
or_bad_request (Ok x) = Success x
or_bad_request (Err e) = Error (bad_request, Io e)

-- the guard that reads a body by such a state, up to the limit of a name
abbrev pub capped_guard : {V S X : Type 0} → (S → Meaning) → Polled S
    → (Gathering S → Gathering S → Poll (Result X DataError) → Type 0)
    → List ℕ → ℕ
    → Guarding V (Body S) X GuardError (Gathering S)
capped_guard {V} {S} {X} meaning polled Answers name otherwise = record {
  begun = λ request body gates n reading.
      (limit : ℕ) × IsLimit name otherwise request limit × IsReading meaning polled limit body gates n reading;
  may = λ request body gates outcome. (limit : ℕ)
      × IsLimit name otherwise request limit
      × ((answer : Result X DataError)
      × Ends meaning polled Answers limit body gates answer
      × (outcome ≡ or_bad_request answer));
  pendings = λ request body. Some (pendings meaning (read_of body) - pended meaning (read_of body));
}

-- the guards of a text and of bytes
abbrev pub text_guard : {V S : Type 0}
    → (S → Meaning)
    → Polled S
    → Guarding V (Body S) (Capped (String Global)) GuardError (Gathering S)
text_guard meaning polled = capped_guard meaning polled (AnswersText meaning) (codes "string") 8192

abbrev pub bytes_guard : {V S : Type 0}
    → (S → Meaning)
    → Polled S
    → Guarding V (Body S) (Capped (Vec ℕ Global)) GuardError (Gathering S)
bytes_guard meaning polled = capped_guard meaning polled (GathersBytes meaning) (codes "bytes") 8192

-- the guard that answers what this makes of another guard's outcome
abbrev pub guard_by : {V B G H D E R : Type 0}
    → (Guarded B G D → Guarded B H E → Type 0)
    → Guarding V B G D R
    → Guarding V B H E R
guard_by {V} {B} {G} {H} {D} {E} {R} Makes inner = record {
  begun = inner.begun;
  may = λ request body gates outcome. (answer : Guarded B G D) × inner.may request body gates answer × Makes answer outcome;
  pendings = inner.pendings;
}

-- where that is a function
abbrev pub guard_map : {V B G H D E R : Type 0} → (Guarded B G D → Guarded B H E) → Guarding V B G D R → Guarding V B H E R
guard_map f inner = guard_by (λ answer outcome. outcome ≡ f answer) inner

-- a value that is complete, and else an error with 400 that says how much was read
abbrev pub strict : {X F : Type 0} → Outcome (Capped X) (Status × GuardError) F → Outcome X (Status × GuardError) F
strict (Success capped) =
    if capped.n.complete then Success capped.value else Error (bad_request, LimitExceeded capped.n.written)
strict (Error e) = Error e
strict (Forward f) = Forward f

abbrev pub ErrsWith400 : {X E F : Type 0} → Outcome X (Status × E) F → Type 0
ErrsWith400 outcome = IsErrorAnd outcome (λ e. e.0.code ≡ 400)

-- an error with 400, or a value that is not complete
abbrev pub ErrsOrIsCut : {X E F : Type 0} → Outcome (Capped X) (Status × E) F → Type 0
ErrsOrIsCut outcome = MatchOutcome outcome (λ capped. capped.n.complete ≡ false) (λ e. e.0.code ≡ 400) (λ _. ⊥)

-- an Error is kept as Err
abbrev pub kept_answer : {G E D F : Type 0} → Outcome G (Status × E) F → Outcome (Result G E) D F
kept_answer (Success x) = Success (Ok x)
kept_answer (Error e) = Success (Err e.1)
kept_answer (Forward f) = Forward f

-- whatever is no Success is None
abbrev pub kept_value : {G E D F H : Type 0} → Outcome G E F → Outcome (Option G) D H
kept_value (Success x) = Success (Some x)
kept_value (Error e) = Success None
kept_value (Forward f) = Success None

-- the value that a text gives, or its error with 400
abbrev pub value_or_refusal : {P E F : Type 0} → Result P E → Outcome (Parsed P) (Status × TextError E) F
value_or_refusal (Ok x) = Success (record { 0 = x })
value_or_refusal (Err e) = Error (bad_request, text_error.Text e)

-- what is made of the outcome of a text that gives a value or an error by these readings
abbrev pub ParsedAs : {P E F : Type 0} → (List ℕ → Result P E → Type 0) → Outcome (String Global) (Status × GuardError) F
    → Outcome (Parsed P) (Status × TextError E) F → Type 0
ParsedAs {P} {E} {F} Reads (Success text) outcome =
    (answer : Result P E) × Reads (string_bytes text) answer × (outcome ≡ value_or_refusal answer)
ParsedAs Reads (Error e) outcome = outcome ≡ Error (e.0, text_error.Body e.1)
ParsedAs Reads (Forward f) outcome = outcome ≡ Forward f

-- the body as it is, at once
abbrev pub body_guard : {V B E : Type 0} → Guarding V B B E (Option B)
body_guard = record {
  begun = λ request body gates n reading. reading ≡ Some body;
  may = λ request body gates outcome. outcome ≡ Success body;
  pendings = λ request body. Some 0;
}
