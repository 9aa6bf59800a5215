-- Flash messages: what their cookie says, and how it is read.
use Rattle.std.specs.Fmt.{decimal}
use Rattle.std.specs.Prelude.{◌≡◌, ℕ, ◌^◌, ◌<◌, List, [], ◌∷◌, ◌++◌, Bool, false, Option, Some, None, codes, length, option_map, if◌then◌else◌}
use Rattle.std.specs.Str.{IsCharBoundary}
use Rattle.std.specs.Str.Parse.{IsNumeral, digits_value, without_leading_plus}
use Rattle.rkt_cookie.specs.Cookie.{Parts, bare}
use Rattle.rkt_cookie.specs.Jar.{JarParts, addition, cookie_of, removal_of}
use Rattle.rkt_cookie.specs.Reading.{Reads}
use Rattle.rkt_http.specs.declared.outcome.Outcome.{Outcome}
use Rattle.rkt_http.specs.declared.outcome.Outcome.TheVariants.{Success, Error}
use Rattle.rkt_http.specs.declared.status.Status.{Status}
use Rattle.rkt_request.specs.Guards.{bad_request}
use Rattle.rkt_request.specs.Lent.{Lent, with_jar}
use Rattle.rkt_request.specs.Seen.{MaybeReadAs}

-- a kind and a message
pub record Flashed : Type 0 where
  pub kind : List ℕ
  pub message : List ℕ

-- a flash, with the responder behind it
pub record FlashOf (R : Type 0) : Type 0 where
  pub responder : R
  pub flashed : Flashed

-- a flash that was read, and whether its cookie was removed since
pub record Received : Type 0 where
  pub flashed : Flashed
  pub removed : Bool

abbrev pub flash_name : List ℕ
flash_name = codes "_flash"

-- the length of the kind in bytes, a colon, the kind and the message
abbrev pub flash_text : Flashed → List ℕ
flash_text flashed = decimal (length flashed.kind) ++ codes ":" ++ flashed.kind ++ flashed.message

-- the cookie of a flash, which a client keeps for five minutes
abbrev pub flash_cookie : Flashed → Parts
flash_cookie flashed = record (bare flash_name (flash_text flashed)) { max_age = Some 300 }

-- a jar to which the flash's cookie was added, and what a callback is lent with such a jar
abbrev pub with_flash : Flashed → JarParts → JarParts
with_flash flashed jar = record jar { log = jar.log ++ addition (flash_cookie flashed) ∷ [] }

abbrev pub flashing : {C : Type 0} → Flashed → Lent C → Lent C
flashing flashed lent = with_jar lent (with_flash flashed lent.kept.jar)

-- what a callback leaves, but for the jar, which is as it was before
abbrev pub LeavesJar : {C : Type 0} → (Lent C → Type 0) → Lent C → Lent C → Type 0
LeavesJar {C} Leaves before after = (left : Lent C) × Leaves left × (after ≡ with_jar left before.kept.jar)

-- digits, with or without a plus in front, that a `usize` holds the number of
pub record SpellsUsize (text : List ℕ) (n : ℕ) : Type 0 where
  pub numeral : IsNumeral 10 (without_leading_plus text)
  pub value : digits_value 10 (without_leading_plus text) ≡ n
  pub held : n < 2 ^ 64

-- a text says this kind and message: a number, a colon, as many bytes of the kind, which end with a character, and the
-- message
pub record SaysFlash (text : List ℕ) (flashed : Flashed) : Type 0 where
  pub number : List ℕ
  pub parts : text ≡ number ++ codes ":" ++ flashed.kind ++ flashed.message
  pub spelled : SpellsUsize number (length flashed.kind)
  pub boundary : IsCharBoundary (flashed.kind ++ flashed.message) (length flashed.kind)

-- what the flash cookie says that came with a request: nothing where none came, or where it says no kind and message
abbrev pub IsFlashOf : JarParts → Option Flashed → Type 0
IsFlashOf jar found = MaybeReadAs SaysFlash (option_map (λ cookie. cookie.value) (cookie_of flash_name jar.originals)) found

-- a flash whose cookie is still there, or else an Error with 400
abbrev pub answer_of : {F : Type 0} → Option Flashed → Outcome Received (Status × Unit {0}) F
answer_of (Some flashed) = Success (record { flashed = flashed; removed = false })
answer_of None = Error (bad_request, tt)

-- a jar from which the flash cookie was removed, unless it had been before
abbrev pub without_flash : Bool → JarParts → JarParts
without_flash removed jar =
    if removed then jar else record jar { log = jar.log ++ removal_of (bare flash_name []) ∷ [] }

-- a text is read as a flash cookie that says this kind and message, and as nothing else
pub record ReadsFlash (text : List ℕ) (flashed : Flashed) : Type 0 where
  pub cookie : Parts
  pub reads : Reads text cookie
  pub no_other : (other : Parts) → Reads text other → other ≡ cookie
  pub named : cookie.name ≡ flash_name
  pub says : SaysFlash cookie.value flashed
  pub just : (other : Flashed) → SaysFlash cookie.value other → other ≡ flashed
