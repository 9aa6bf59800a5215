use Rattle.std.proofs.Common.{◌≡◌, length, ◌==◌, ◌++◌, ◌∷◌, [], not, filter, map, ap, ◌∙◌, sym, false, List, ℕ, rules, refl, string_bytes, append_assoc}
use Rattle.std.proofs.lemmas.Iterator.Consumers.{YieldsList-end}
use Rattle.std.proofs.lemmas.Iterator.Splits.{YieldsList-from_str_split}
use Rattle.rkt_uri.specs.Origin.{led}
use Rattle.rkt_uri.proofs.Pieces.{kept_by, kept-more}
use Rattle.rkt_uri.proofs.Joins.{led-append}
use Rattle.rkt_uri.proofs.origin.push_led.Goals as goal

map_same : (xs : List (List ℕ)) → map (λ x. x) xs ≡ xs
map_same [] = refl
map_same (x ∷ xs) = ap (λ (ys : List (List ℕ)). x ∷ ys) (map_same xs)

pub returns : goal.returns
returns c =
    let start = c.into_iter-piece-iterator.ensures.into_iter_gives in
    let all = YieldsList-from_str_split c.args.separator c.args.text.now c.requires.separator (cc (c.split-piece-items.ensures.text, start)) (cc (c.split-piece-items.ensures.has_more, start)) (cc (c.split-piece-items.ensures.pattern, start)) in
    c.loop-piece.invariant ∙ ap (λ parts. led c.args.separator (map (λ piece. piece) (filter (λ piece. not (length piece == 0)) parts)))
    (YieldsList-end all _ _ c.loop-piece.yielded_by _ _ c.in-None.is c.next.ensures.steps).0
    ∙ ap (led c.args.separator) (map_same _)

pub loop-piece-preserved-in-Continue-branch-2 : goal.loop-piece-preserved-in-Continue-branch-2
loop-piece-preserved-in-Continue-branch-2 c =
    let some : (length c.in-Some.piece.now == 0) ≡ false = search rules in
    let so_far : List (List ℕ) = kept_by (λ (piece : List ℕ). piece) c.loop-piece.yielded in
    c.in_ok-push_str.ensures.bytes
    ∙ ap (λ (text : List ℕ). text ++ c.in-Some.piece.now)
    (c.in_ok-push.ensures.bytes ∙ ap (λ (mark : List ℕ). string_bytes c.loop-piece.out ++ mark) (c.in_ok-push.ensures.ascii c.requires.separator)
    ∙ ap (λ (text : List ℕ). text ++ c.args.separator ∷ []) c.loop-piece.invariant)
    ∙ append_assoc (led c.args.separator so_far) (c.args.separator ∷ []) c.in-Some.piece.now
    ∙ sym (ap (led c.args.separator) (kept-more (λ (piece : List ℕ). piece) c.loop-piece.yielded c.in-Some.piece some) ∙ led-append c.args.separator so_far c.in-Some.piece.now)
