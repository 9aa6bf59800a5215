use Rattle.std.proofs.Common.{List, ℕ, map, ap, sym, ◌∙◌, ◌++◌, Bor}
use Rattle.std.specs.List.{join_with_byte}
use Rattle.rkt_uri.specs.Origin.{led}
use Rattle.rkt_uri.proofs.Joins.{join_with_byte-led}
use Rattle.rkt_uri.proofs.path_buf.join.Goals as goal

pub returns : goal.returns
returns c =
    c.in_ok-push_behind.ensures
    ∙ ap (λ (text : List ℕ). text ++ led 47 (map (λ name. name.now) c.in-Some.others.now)) c.in_ok-text.ensures
    ∙ sym (join_with_byte-led 47 _ _)
    ∙ ap (λ (names : List (Bor (List ℕ))). join_with_byte 47 (map (λ name. name.now) names)) (sym c.in-Some.ensures.cases.0)
