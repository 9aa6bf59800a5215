use Rattle.std.proofs.Common.{length, ◌==◌, not, filter, map, ap, ◌∙◌, lit<}
use Rattle.std.proofs.lemmas.Iterator.Consumers.{YieldsList-end}
use Rattle.std.proofs.lemmas.Iterator.Splits.{YieldsList-from_str_split}
use Rattle.rkt_uri.specs.Origin.{decoded}
use Rattle.rkt_uri.proofs.origin.push_segments.Goals as goal

pub returns : goal.returns
returns c =
    let start = c.into_iter-piece-iterator.ensures.into_iter_gives in
    let all = YieldsList-from_str_split 47 c.args.path.now (lit< tt) (cc (c.split-piece-items.ensures.text, start)) (cc (c.split-piece-items.ensures.has_more, start)) (cc (c.split-piece-items.ensures.pattern, start)) in
    c.loop-piece.invariant ∙ ap (λ parts. map decoded (filter (λ piece. not (length piece == 0)) parts))
    (YieldsList-end all _ _ c.loop-piece.yielded_by _ _ c.in-None.is c.next.ensures.steps).0
