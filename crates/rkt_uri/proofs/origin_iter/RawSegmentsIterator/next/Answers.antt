use Rattle.std.proofs.Common.{◌≡◌, ◌==◌, length, false, sym, ◌∙◌, rules, ◌∷◌}
use Rattle.rkt_uri.specs.Origin.{pieces}
use Rattle.rkt_uri.proofs.Pieces.{pieces_read}
use Rattle.rkt_uri.proofs.origin_iter.RawSegmentsIterator.next.Goals as goal

pub returns-then-not-is_empty-clause-steps : goal.returns-then-not-is_empty-clause-steps
returns-then-not-is_empty-clause-steps c =
    let some : (length c.cut.result.0.now == 0) ≡ false = search rules in
    sym c.loop-self.invariant ∙ pieces_read c.loop-self.self-inside.rest.now _ _ c.cut.ensures.before c.cut.ensures.behind some

pub returns-then-not-is_empty-clause-goes : goal.returns-then-not-is_empty-clause-goes
returns-then-not-is_empty-clause-goes c =
    let some : (length c.cut.result.0.now == 0) ≡ false = search rules in
    let steps : c.args.self.now ≡ c.cut.result.0.now ∷ pieces 47 c.cut.result.1.now =
    sym c.loop-self.invariant ∙ pieces_read c.loop-self.self-inside.rest.now _ _ c.cut.ensures.before c.cut.ensures.behind some in
    search (rules, steps)
