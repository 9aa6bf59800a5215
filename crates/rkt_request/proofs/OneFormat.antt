-- A request has one format at most.
use Rattle.std.proofs.Common.{◌≡◌, ℕ, List, [], ◌∷◌, Bool, true, false, Option, Some, None, sym, ◌∙◌, ap, refl, subst}
use Rattle.std.specs.Prelude.{MatchBool, IsSomeAnd}
use Rattle.rkt_media.specs.Accept.{Weighed, PrefersOne}
use Rattle.rkt_media.specs.AcceptText.{SpellsAccept, SpellsOneAccept}
use Rattle.rkt_media.specs.Media.{Media}
use Rattle.rkt_media.specs.MediaText.{SpellsMedia, SpellsOneMedia}
use Rattle.rkt_http.specs.Method.{carries_payload}
use Rattle.rkt_request.specs.Seen.{Seen, IsAccept, IsAccepted, IsContentType, HasOneFormat, MaybeReadAs}

read_same : {X : Type 0} (Spells : List ℕ → X → Type 0) → ((text : List ℕ) (a b : X) → Spells text a → Spells text b → a ≡ b)
    → (text : Option (List ℕ)) (a b : Option X) → MaybeReadAs Spells text a → MaybeReadAs Spells text b → a ≡ b
read_same Spells same None a b one other = one ∙ sym other
read_same Spells same (Some text) None None one other = refl
read_same Spells same (Some text) None (Some b) one other = absurd (one b other)
read_same Spells same (Some text) (Some a) None one other = absurd (other a one)
read_same Spells same (Some text) (Some a) (Some b) one other = ap (λ x. Some x) (same text a b one other)

accepted_same : PrefersOne → (accept : Option (List Weighed)) (a b : Media) → IsAccepted accept a → IsAccepted accept b → a ≡ b
accepted_same preferred None a b one other = one ∙ sym other
accepted_same preferred (Some []) a b one other = one ∙ sym other
accepted_same preferred (Some (entry ∷ entries)) a b one other = preferred (entry ∷ entries) a b one other

found_same : PrefersOne → (accept : Option (List Weighed)) (a b : Option Media) → IsSomeAnd a (IsAccepted accept) → IsSomeAnd b (IsAccepted accept) → a ≡ b
found_same preferred accept None b one other = absurd one
found_same preferred accept (Some a) None one other = absurd other
found_same preferred accept (Some a) (Some b) one other = ap (λ x. Some x) (accepted_same preferred accept a b one other)

-- what is preferred of what a request accepts
abbrev Preferred : {V : Type 0} → Seen V → Option Media → Type 0
Preferred request found = (accept : Option (List Weighed)) × IsAccept request.headers accept × IsSomeAnd found (IsAccepted accept)

by_method : SpellsOneMedia → SpellsOneAccept → PrefersOne → {V : Type 0} (request : Seen V) (a b : Option Media) (payload : Bool) → MatchBool payload (IsContentType request.headers a) (Preferred request a)
    → MatchBool payload (IsContentType request.headers b) (Preferred request b) → a ≡ b
by_method media accept preferred request a b true one other = read_same SpellsMedia media _ a b one other
by_method media accept preferred request a b false one other =
    let same = read_same SpellsAccept accept _ one.0 other.0 one.1 other.1 in
    found_same preferred one.0 a b one.2 (subst (λ (accept : Option (List Weighed)). IsSomeAnd b (IsAccepted accept)) (sym same) other.2)

-- a request has one format, or none
pub one_format : SpellsOneMedia → SpellsOneAccept → PrefersOne → {V : Type 0} (request : Seen V) → HasOneFormat request
one_format media accept preferred request a b one other = by_method media accept preferred request a b (carries_payload request.method) one other
