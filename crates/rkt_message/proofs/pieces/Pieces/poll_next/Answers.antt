use Rattle.std.proofs.Common.{◌≡◌, ◌∙◌, [], ap, sym}
use Rattle.rkt_message.proofs.ReadOnLemmas.{head_asks, reads_nothing}
use Rattle.rkt_message.proofs.SendingLemmas.{none_given, some_given}
use Rattle.rkt_message.proofs.pieces.Pieces.poll_next.Goals as goal

pub returns-in-Head-clause-reads : goal.returns-in-Head-clause-reads
returns-in-Head-clause-reads g c = rw c.head.ensures.response (reads_nothing _ _ _)

pub returns-in-Head-clause-by_gate : goal.returns-in-Head-clause-by_gate
returns-in-Head-clause-by_gate g c =
    let first : c.args.self.now.given ≡ [] = sym (ap (λ s. s.given) c.self.view_is) ∙ none_given g.S.Source.meaning c.self.inside.stage c.self.inside.response c.self.inside.begun.value c.self.inside.given c.in-Head.is c.self.invariant.stands in
    rw c.head.ensures.response (head_asks g.S.Source.meaning g.S.Source.polled c.args.gate c.args.self.now.response.body.chunk c.args.self.now c.head.new.self c.head.result c.args.self.now.response.body.content first c.head.ensures.answer)

pub head-requires-clause-first : goal.head-requires-clause-first
head-requires-clause-first g c =
    sym (ap (λ s. s.given) c.self.view_is) ∙ none_given g.S.Source.meaning c.self.inside.stage c.self.inside.response c.self.inside.begun.value c.self.inside.given c.in-Head.is c.self.invariant.stands

pub chunk-requires-clause-begun : goal.chunk-requires-clause-begun
chunk-requires-clause-begun g c none =
    some_given g.S.Source.meaning c.self.inside.stage c.self.inside.response c.self.inside.begun.value c.self.inside.given c.in-Body.is c.self.invariant.stands (ap (λ s. s.given) c.self.view_is ∙ none)
