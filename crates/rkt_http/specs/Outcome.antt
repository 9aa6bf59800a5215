-- Words on an Outcome.
use Rattle.std.specs.Prelude.{◌≡◌, ⊤, ℕ, List, codes, Option, Some, None, Result, Ok, Err}
use Rattle.rkt_http.specs.declared.outcome.Outcome.{Outcome}
use Rattle.rkt_http.specs.declared.outcome.Outcome.TheVariants.{Success, Error, Forward}

-- a fact of the value by its variant
abbrev pub MatchOutcome : {S E F : Type 0} → Outcome S E F → (S → Type 0) → (E → Type 0) → (F → Type 0) → Type 0
MatchOutcome (Success s) P Q R = P s
MatchOutcome (Error e) P Q R = Q e
MatchOutcome (Forward f) P Q R = R f

abbrev pub IsSuccess : {S E F : Type 0} → Outcome S E F → Type 0
IsSuccess o = MatchOutcome o (λ _. ⊤) (λ _. ⊥) (λ _. ⊥)

abbrev pub IsError : {S E F : Type 0} → Outcome S E F → Type 0
IsError o = MatchOutcome o (λ _. ⊥) (λ _. ⊤) (λ _. ⊥)

abbrev pub IsForward : {S E F : Type 0} → Outcome S E F → Type 0
IsForward o = MatchOutcome o (λ _. ⊥) (λ _. ⊥) (λ _. ⊤)

-- it is a Success, and P holds of its value
abbrev pub IsSuccessAnd : {S E F : Type 0} → Outcome S E F → (S → Type 0) → Type 0
IsSuccessAnd o P = MatchOutcome o P (λ _. ⊥) (λ _. ⊥)

abbrev pub IsErrorAnd : {S E F : Type 0} → Outcome S E F → (E → Type 0) → Type 0
IsErrorAnd o Q = MatchOutcome o (λ _. ⊥) Q (λ _. ⊥)

abbrev pub IsForwardAnd : {S E F : Type 0} → Outcome S E F → (F → Type 0) → Type 0
IsForwardAnd o R = MatchOutcome o (λ _. ⊥) (λ _. ⊥) R

-- P of the value of a Success, in the form for a `requires`
abbrev pub ForSuccess : {S E F : Type 0} → Outcome S E F → (S → Type 0) → Type 0
ForSuccess {S} {E} {F} o P = (s : S) → o ≡ Success s → P s

abbrev pub ForError : {S E F : Type 0} → Outcome S E F → (E → Type 0) → Type 0
ForError {S} {E} {F} o P = (e : E) → o ≡ Error e → P e

abbrev pub ForForward : {S E F : Type 0} → Outcome S E F → (F → Type 0) → Type 0
ForForward {S} {E} {F} o P = (f : F) → o ≡ Forward f → P f

-- the same variant, with a function of its value
abbrev pub map_outcome : {S E F S' E' F' : Type 0} → (S → S') → (E → E') → (F → F') → Outcome S E F → Outcome S' E' F'
map_outcome f g h (Success s) = Success (f s)
map_outcome f g h (Error e) = Error (g e)
map_outcome f g h (Forward v) = Forward (h v)

-- the second outcome has the value of a Success changed as P says, and is the first otherwise
abbrev pub Maps : {S T E F : Type 0} → (S → T → Type 0) → Outcome S E F → Outcome T E F → Type 0
Maps P before after = MatchOutcome before (λ s. IsSuccessAnd after (P s)) (λ e. after ≡ Error e) (λ v. after ≡ Forward v)

-- likewise of what an Error carries
abbrev pub MapsError : {S E T F : Type 0} → (E → T → Type 0) → Outcome S E F → Outcome S T F → Type 0
MapsError P before after = MatchOutcome before (λ s. after ≡ Success s) (λ e. IsErrorAnd after (P e)) (λ v. after ≡ Forward v)

-- likewise of what a Forward hands on
abbrev pub MapsForward : {S E F T : Type 0} → (F → T → Type 0) → Outcome S E F → Outcome S E T → Type 0
MapsForward P before after = MatchOutcome before (λ s. after ≡ Success s) (λ e. after ≡ Error e) (λ v. IsForwardAnd after (P v))

-- the second outcome goes on from the value of a Success as P says, and is the first otherwise
abbrev pub GoesOn : {S T E F : Type 0} → (S → Outcome T E F → Type 0) → Outcome S E F → Outcome T E F → Type 0
GoesOn P before after = MatchOutcome before (λ s. P s after) (λ e. after ≡ Error e) (λ v. after ≡ Forward v)

-- likewise from what an Error carries
abbrev pub GoesOnFromError : {S E T F : Type 0} → (E → Outcome S T F → Type 0) → Outcome S E F → Outcome S T F → Type 0
GoesOnFromError P before after = MatchOutcome before (λ s. after ≡ Success s) (λ e. P e after) (λ v. after ≡ Forward v)

-- likewise from what a Forward hands on
abbrev pub GoesOnFromForward : {S E F T : Type 0} → (F → Outcome S E T → Type 0) → Outcome S E F → Outcome S E T → Type 0
GoesOnFromForward P before after = MatchOutcome before (λ s. after ≡ Success s) (λ e. after ≡ Error e) (λ v. P v after)

abbrev pub succeeded : {S E F : Type 0} → Outcome S E F → Option S
succeeded (Success s) = Some s
succeeded (Error e) = None
succeeded (Forward f) = None

abbrev pub failed : {S E F : Type 0} → Outcome S E F → Option E
failed (Success s) = None
failed (Error e) = Some e
failed (Forward f) = None

abbrev pub forwarded : {S E F : Type 0} → Outcome S E F → Option F
forwarded (Success s) = None
forwarded (Error e) = None
forwarded (Forward f) = Some f

-- the value of a Success, or else another
abbrev pub success_or : {S E F T : Type 0} → Outcome S E F → T → Result S T
success_or (Success s) t = Ok s
success_or (Error e) t = Err t
success_or (Forward f) t = Err t

-- the name of the variant
abbrev pub variant_name : {S E F : Type 0} → Outcome S E F → List ℕ
variant_name (Success s) = codes "Success"
variant_name (Error e) = codes "Error"
variant_name (Forward f) = codes "Forward"
