-- What may follow inside a media type, where K is what may follow its subtype or a value.
use Rattle.std.specs.Prelude.{ℕ, ◌≡◌, ◌⊎◌, List, Bool, false, Some}
use Rattle.rkt_grammar.specs.Bytes.{slash, quotation_mark, equals_sign}
use Rattle.rkt_grammar.specs.Grammar.{is_token_byte}
use Rattle.rkt_media.specs.Runs.{behind_run, Starts}
use Rattle.rkt_media.specs.MediaText.{behind_quoted, ByteThen}

-- any of these
abbrev pub Any : (V : Type 0) → (V → List ℕ → Type 0) → List ℕ → Type 0
Any V P text = (v : V) × P v text

-- more of a run of bytes, and then the rest
abbrev pub RunOn : (ℕ → Bool) → (List ℕ → Type 0) → List ℕ → Type 0
RunOn test L text = L (behind_run test text)

-- more of a run of bytes, the byte c, and then the rest
abbrev pub MarkOn : (ℕ → Bool) → ℕ → (List ℕ → Type 0) → List ℕ → Type 0
MarkOn test c L text = ByteThen c (behind_run test text) L

-- the first byte of a token, where the token goes on so
abbrev pub WordOn : (List ℕ → Type 0) → List ℕ → Type 0
WordOn L text = Starts is_token_byte text × L text

-- a subtype
abbrev pub SubOn : (List ℕ → Type 0) → List ℕ → Type 0
SubOn K = WordOn (RunOn is_token_byte K)

-- a type that has begun, and a subtype
abbrev pub TopOn : (List ℕ → Type 0) → List ℕ → Type 0
TopOn K = MarkOn is_token_byte slash (SubOn K)

-- a quoted string that goes on so, behind a backslash or not
abbrev pub QuotedOn : (List ℕ → Type 0) → Bool → List ℕ → Type 0
QuotedOn K escaped text = (more : List ℕ) × (behind_quoted escaped text ≡ Some more) × K more

-- a value
abbrev pub ValueOn : (List ℕ → Type 0) → List ℕ → Type 0
ValueOn K text = SubOn K text ⊎ ByteThen quotation_mark text (QuotedOn K false)

-- a name that has begun, and a value
abbrev pub NameOn : (List ℕ → Type 0) → List ℕ → Type 0
NameOn K = MarkOn is_token_byte equals_sign (ValueOn K)
