use Rattle.std.proofs.Common.{◌≡◌, ◌∙◌, [], map, drop, ap, sym, arith}
use Rattle.std.proofs.lemmas.List.{drop_all}
use Rattle.rkt_uri.proofs.Paths.{names_behind, all_left}
use Rattle.rkt_uri.proofs.path_buf.walk.Goals as goal

pub returns : goal.returns
returns c =
    let none : drop c.loop-segment.segment-index c.args.segments.now ≡ [] = drop_all c.loop-segment.segment-index c.args.segments.now (omega arith) in
    ap (names_behind (map (λ name. name.now) c.loop-segment.kept.items)) (sym none) ∙ c.loop-segment.invariant ∙ all_left c.args.segments.now
