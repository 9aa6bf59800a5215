use Rattle.std.proofs.Common.{ap, ◌∙◌, fold, lit<}
use Rattle.std.proofs.lemmas.Iterator.Consumers.{YieldsList-end}
use Rattle.std.proofs.lemmas.Iterator.Splits.{YieldsList-from_str_split}
use Rattle.rkt_cookie.specs.Reading.{with_piece}
use Rattle.rkt_cookie.proofs.cookie.Cookie.set_pieces.Goals as goal

pub returns : goal.returns
returns c =
    let s = c.split-piece-items.ensures in
    let start = c.into_iter-piece-iterator.ensures.into_iter_gives in
    let all = YieldsList-from_str_split 59 c.args.pieces.now (lit< tt) (cc (s.text, start)) (cc (s.has_more, start)) (cc (s.pattern, start)) in
    let read = (YieldsList-end all _ _ c.loop-piece.yielded_by _ _ c.in-None.is c.next.ensures.steps).0 in
    c.loop-piece.invariant ∙ ap (fold with_piece c.args.self.now) read
