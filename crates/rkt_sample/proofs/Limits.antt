-- The limit of texts, as a configuration finds it: no front of its name but the name itself.
use Rattle.std.proofs.Common.{◌≡◌, ◌==◌, ◌∷◌, ◌++◌, ℕ, Bool, true, false, List, [], All, Option, Some, None, codes, cond, ap, inl, inr, not, refl, sym, ◌∙◌}
use Rattle.std.proofs.lemmas.List.Elements.{All-head, All-tail}
use Rattle.std.proofs.lemmas.Slice.Eq.{bytes_eq-Decides}
use Rattle.std.specs.Map.{lookup}
use Rattle.std.specs.Str.{bytes_eq}
use Rattle.rkt_config.specs.Limits.{IsFront, IsLimitOf}
use Rattle.rkt_data.specs.declared.data_stream.ByteUnit.{ByteUnit}
use Rattle.rkt_grammar.specs.Grammar.{OnlyOf}

abbrev Limits : Type 0
Limits = List (List ℕ × ByteUnit)

no_slash : (front rest : List ℕ) → OnlyOf (λ b. not (b == 47)) (front ++ 47 ∷ rest) → ⊥
no_slash [] rest only = cc only.0
no_slash (b ∷ front) rest only = no_slash front rest only.1

-- the layers of `string` are itself
one_front : (front : List ℕ) → IsFront front (codes "string") → front ≡ codes "string"
one_front front (inl same) = sym same
one_front front (inr more) = absurd (no_slash front more.0 (rw (sym more.1) (refl, (refl, (refl, (refl, (refl, (refl, tt))))))))

by_test : {X : Type 0} (test : Bool) (x : X) (rest : Option X) → ¬ (test ≡ true) → rest ≡ None → cond test (Some x) rest ≡ None
by_test true x rest fails none = absurd (fails refl)
by_test false x rest fails none = none

abbrev NoFront : List ℕ × ByteUnit → Type 0
NoFront entry = ¬ IsFront entry.0 (codes "string")

missing : (limits : Limits) → All NoFront limits → lookup (bytes_eq (codes "string")) limits ≡ None
missing [] none = refl
missing (entry ∷ limits) none =
    by_test _ entry.1 _
    (λ is. All-head NoFront entry limits none (inl ((bytes_eq-Decides (codes "string") entry.0).0 is)))
    (missing limits (All-tail NoFront entry limits none))

pub string_limit_is : (limits : Limits) (found : Option ByteUnit) → IsLimitOf limits (codes "string") found → found ≡ lookup (bytes_eq (codes "string")) limits
string_limit_is limits None is = sym (missing limits is)
string_limit_is limits (Some limit) is = sym (ap (λ (front : List ℕ). lookup (bytes_eq front) limits) (sym (one_front is.front is.is_front)) ∙ is.kept)
