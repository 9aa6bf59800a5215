-- The cookies that routes and catchers add.
use Rattle.std.specs.Prelude.{◌≡◌, ℕ, List, [], ◌∷◌, ◌++◌, All, false, Option, Some, None, codes}
use Rattle.rkt_cookie.specs.Cookie.{Parts, bare}
use Rattle.rkt_cookie.specs.Jar.{addition}
use Rattle.rkt_cookie.specs.declared.change.Change.{Change}
use Rattle.rkt_request.specs.Lent.{Kept}

-- the cookie of a name, whose value is 1
abbrev pub mark_of : List ℕ → Parts
mark_of name = bare name (codes "1")

-- with a cookie added, if one is; C is the type of cached values
abbrev pub with_added : {C : Type 0} → Option Parts → Kept C → Kept C
with_added None kept = kept
with_added (Some cookie) kept = record kept { jar = record kept.jar { log = kept.jar.log ++ addition cookie ∷ [] } }

-- what is new in the log are additions
abbrev pub AddsOnly : {C : Type 0} → Kept C → Kept C → Type 0
AddsOnly before after =
    (more : List Change) × All (λ change. change.removal ≡ false) more × (after.jar.log ≡ before.jar.log ++ more)
