-- A text that grows by one piece after another, with a mark between them.
use Rattle.std.proofs.Common.{◌≡◌, ℕ, List, [], ◌∷◌, ◌++◌, flat_map, sym, ap, ◌∙◌, append_assoc, append-nil}
use Rattle.std.specs.List.{join_by}

-- what stands behind the first piece
abbrev pub others_text : {X : Type 0} → (X → List ℕ) → List ℕ → List X → List ℕ
others_text text mark others = flat_map (λ x. mark ++ text x) others

pub text_begins : {X : Type 0} (piece : X → List ℕ) (mark old now : List ℕ) (x : X) (xs others : List X)
    → xs ≡ x ∷ others → now ≡ old ++ piece x → now ++ others_text piece mark others ≡ old ++ join_by piece mark xs
text_begins piece mark old now x xs others is grown =
    ap (λ (l : List ℕ). l ++ others_text piece mark others) grown
    ∙ append_assoc old (piece x) (others_text piece mark others)
    ∙ ap (λ (l : _). old ++ join_by piece mark l) (sym is)

pub text_goes_on : {X : Type 0} (piece : X → List ℕ) (mark whole now next : List ℕ) (x : X) (xs others : List X)
    → now ++ others_text piece mark xs ≡ whole → xs ≡ x ∷ others → next ≡ now ++ (mark ++ piece x) → next ++ others_text piece mark others ≡ whole
text_goes_on piece mark whole now next x xs others so_far is grown =
    ap (λ (l : List ℕ). l ++ others_text piece mark others) grown
    ∙ append_assoc now (mark ++ piece x) (others_text piece mark others)
    ∙ ap (λ (l : _). now ++ others_text piece mark l) (sym is)
    ∙ so_far

pub text_ends : {X : Type 0} (piece : X → List ℕ) (mark whole now : List ℕ) (xs : List X) → now ++ others_text piece mark xs ≡ whole → xs ≡ [] → now ≡ whole
text_ends piece mark whole now xs so_far is = sym (append-nil now) ∙ ap (λ (l : _). now ++ others_text piece mark l) (sym is) ∙ so_far
