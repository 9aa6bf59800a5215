-- What may follow in a reference, byte by byte.
use Rattle.std.proofs.Common.{◌≡◌, ℕ, List, [], ◌∷◌, Bool, true, if◌then◌else◌, refl, ◌↔◌, Some, None, MatchOption}
use Rattle.rkt_grammar.specs.Grammar.{Begins}
use Rattle.rkt_grammar.specs.BytewiseLaws.{stays}
use Rattle.rkt_uri.specs.Reference.{is_reference_byte, IsReference}
use Rattle.rkt_uri.specs.declared.reference.ReferencePlace.{ReferencePlace}
use Rattle.rkt_uri.specs.ReferencePlaces.{place_after, may_end, rest_of}

pub ends : (place : ReferencePlace) → (may_end place ≡ true) ↔ rest_of place []
ends place = (λ _. tt, λ _. refl)

pub goes_on : (place : ReferencePlace) (b : ℕ) (rest : List ℕ)
    → MatchOption (place_after place b) (¬ rest_of place (b ∷ rest)) (λ next. rest_of next rest ↔ rest_of place (b ∷ rest))
goes_on place b rest = by_test (is_reference_byte b) (stays place is_reference_byte b rest (is_reference_byte b) refl)
  where
    by_test : (t : Bool)
        → MatchOption (if t then Some place else None) (¬ IsReference (b ∷ rest)) (λ next.
        IsReference rest ↔ IsReference (b ∷ rest))
        → MatchOption (if t then Some place else None) (¬ IsReference (b ∷ rest)) (λ next.
        rest_of next rest ↔ IsReference (b ∷ rest))
    by_test t h = h

pub leads_on : (place : ReferencePlace) → Begins (rest_of place) []
leads_on place = ([], tt)
