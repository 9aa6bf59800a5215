use Rattle.std.proofs.Common.{◌≡◌, ◌∷◌, [], ℕ, List, Some, codes, length, slice_get, arith, ap, sym, ◌∙◌, Decides}
use Rattle.std.specs.Str.{bytes_eq}
use Rattle.std.proofs.lemmas.Option.{same_Some}
use Rattle.std.proofs.lemmas.Slice.Eq.{bytes_eq-Decides}
use Rattle.rkt_script.proofs.stopping.is_stop_alone.Goals as goal

-- a list of one item
only : (items : List (List ℕ)) (item : List ℕ) → length items ≡ 1 → slice_get items 0 ≡ Some item → items ≡ item ∷ []
only [] item one there = absurd (omega (arith, one))
only (i ∷ []) item one there = ap (λ (x : List ℕ). x ∷ []) (same_Some i item there)
only (i ∷ j ∷ items) item one there = absurd (omega (arith, one))

pub returns-then-len-eq1 : goal.returns-then-len-eq1
returns-then-len-eq1 c =
    let segments : List (List ℕ) = c.args.segments.now in
    let first : List ℕ = c.in-Some.first.now in
    let lone : segments ≡ first ∷ [] = only segments first (sym c.len.ensures ∙ c.if-len-eq1.true) (sym c.in-Some.ensures) in
    let test : Decides (bytes_eq first (codes "stop")) (first ≡ codes "stop") = bytes_eq-Decides first (codes "stop") in (
      λ is. lone ∙ ap (λ (x : List ℕ). x ∷ []) (test.0 (sym c.eq.ensures ∙ is)),
      λ same. c.eq.ensures ∙ test.1 (same_Some first (codes "stop") (c.in-Some.ensures ∙ ap (λ (xs : List (List ℕ)). slice_get xs 0) same)),
    )
