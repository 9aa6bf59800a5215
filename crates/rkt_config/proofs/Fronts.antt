-- When a text is a front of whole layers of a name.
use Rattle.std.proofs.Common.{◌≡◌, ◌≢◌, ℕ, ◌<◌, ◌≤◌, List, [], ◌∷◌, ◌++◌, length, get_or, take, sym, ap, ◌∙◌, subst, inl, inr, arith, length-append, length-take, nat_eq, map, false}
use Rattle.std.specs.Prelude.{IsTrue, ◌↔◌}
use Rattle.std.specs.Char.{to_ascii_lowercase}
use Rattle.std.proofs.lemmas.Bool.{eqb-true, eq-eqb, cases_eq, false≢true}
use Rattle.std.proofs.lemmas.Bool.Decides.{nat_tests}
use Rattle.std.proofs.Math.ListN.{get_or-append}
use Rattle.std.proofs.Math.Seq.{get_or-append_seam}
use Rattle.std.proofs.lemmas.List.{append_cancel_left, take_all}
use Rattle.rkt_config.specs.Limits.{IsFront}

-- a front's bytes are the first of the name
same_byte : (front name : List ℕ) (i : ℕ) → i < length front → IsFront front name → get_or name i 0 ≡ get_or front i 0
same_byte front name i h (inl e) = ap (λ text. get_or text i 0) e
same_byte front name i h (inr (rest, e)) = ap (λ text. get_or text i 0) e ∙ get_or-append front (47 ∷ rest) 0 i h

not_longer : (front name : List ℕ) → IsFront front name → length front ≤ length name
not_longer front name (inl e) = omega (arith, ap length e)
not_longer front name (inr (rest, e)) = omega (arith, ap length e, length-append front (47 ∷ rest))

length_front : (front : List ℕ) (i : ℕ) → i < length front → length (take i front) ≡ i
length_front front i h = omega (arith, length-take i front)

pub not_front_by_byte : (front name rest : List ℕ) (i b : ℕ) → i < length front → name ≡ take i front ++ b ∷ rest → b ≢ get_or front i 0 → ¬ IsFront front name
not_front_by_byte front name rest i b h e differs is =
    let P : ℕ → Type 0 = λ k. get_or name k 0 ≡ b in
    let here : get_or name i 0 ≡ b = subst P (length_front front i h) (ap (λ text. get_or text (length (take i front)) 0) e ∙ get_or-append_seam (take i front) b rest 0) in
    differs (sym here ∙ same_byte front name i h is)

pub not_front_by_end : (front name : List ℕ) (i : ℕ) → i < length front → name ≡ take i front ++ [] → ¬ IsFront front name
not_front_by_end front name i h e is = absurd (omega (arith, not_longer front name is, ap length e, length-append (take i front) [], length_front front i h))

pub not_front_behind : (front name rest : List ℕ) (b : ℕ) → name ≡ front ++ b ∷ rest → b ≢ 47 → ¬ IsFront front name
not_front_behind front name rest b e differs (inl same) = absurd (omega (arith, ap length e, ap length same, length-append front (b ∷ rest)))
not_front_behind front name rest b e differs (inr (others, is)) =
    let same : b ∷ rest ≡ 47 ∷ others = append_cancel_left front _ _ (sym e ∙ is) in differs (cc)

-- no other byte is a slash in lower case
slash_alone : (b : ℕ) → to_ascii_lowercase b ≡ 47 → b ≡ 47
slash_alone b e = grind (arith, nat_tests)

-- the bytes of a name that are left behind some of a front's bytes, when they have come to their end
pub front_at_end : (front items name rest : List ℕ) (i : ℕ) → items ≡ front → name ≡ take i items ++ map to_ascii_lowercase rest → rest ≡ [] → i < length items → IsTrue false ↔ IsFront front name
front_at_end front items name rest i same e none h =
    let ends : name ≡ take i front ++ [] = rw (same, none) at e in
    (λ no. absurd (false≢true no), λ is. absurd (not_front_by_end front name i (rw same at h) ends is))

-- when the whole front has been read, a slash stands next
pub front_by_next : (front items name rest others : List ℕ) (i b : ℕ) → items ≡ front → name ≡ take i items ++ map to_ascii_lowercase rest → rest ≡ b ∷ others → length items ≤ i → IsTrue (nat_eq b 47) ↔ IsFront front name
front_by_next front items name rest others i b same e next all =
    let whole : name ≡ front ++ to_ascii_lowercase b ∷ map to_ascii_lowercase others = rw (next, take_all i items all, same) at e in (
      λ slash. inr (map to_ascii_lowercase others, whole ∙ ap (λ c. front ++ to_ascii_lowercase c ∷ map to_ascii_lowercase others) (eqb-true b 47 slash)),
      λ is. elim (cases_eq b 47) [ inl even ↦ eq-eqb b 47 even | inr other ↦ absurd (not_front_behind front name _ _ whole (λ low. other (slash_alone b low)) is) ],
    )
