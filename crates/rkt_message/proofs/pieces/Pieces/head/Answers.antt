use Rattle.std.proofs.Common.{◌≡◌, ◌∙◌, [], ap, arith, false, refl, sym, subst, List}
use Rattle.rkt_message.specs.Sending.{InvariantAt, is_done}
use Rattle.rkt_message.specs.declared.piece.Piece.{Piece}
use Rattle.rkt_message.specs.declared.stage.Stage.TheVariants as stage
use Rattle.rkt_message.proofs.ReadOnLemmas.{never_waited}
use Rattle.rkt_message.proofs.SendingLemmas.{at_head, gives_head, head_stands}
use Rattle.rkt_message.proofs.pieces.Pieces.head.Goals as goal

pub returns-clause-answer : goal.returns-clause-answer
returns-clause-answer g c =
    let first : c.self.inside.given ≡ [] = ap (λ s. s.given) c.self.view_is ∙ c.requires.first in
    let going : is_done c.self.inside.stage ≡ false = ap (λ s. s.is_over) c.self.view_is ∙ c.requires.going in
    let same = at_head g.S.Source.meaning c.self.inside.stage c.self.inside.response c.self.inside.begun.value c.self.inside.given c.self.invariant.stands going first in
    let stands = head_stands g.S.Source.meaning c.self.inside.response c.self.inside.begun.value c.self.inside.given c.in_ok-head.head first same (sym c.has_head.ensures ∙ c.if-not-has_head.false) c.in_ok-head.ensures in
    let stands_now = subst (λ (ps : List Piece). InvariantAt g.S.Source.meaning stage.Body c.self.inside.response c.self.inside.begun.value ps) (sym c.push.ensures) stands in
    rw (← c.self.view_is) (gives_head _ _ _ _ first c.push.ensures refl refl refl c.self.invariant.chunk c.in_ok-head.ensures stands_now)

pub invariant_of-self-2 : goal.invariant_of-self-2
invariant_of-self-2 g c =
    let first : c.self.inside.given ≡ [] = ap (λ s. s.given) c.self.view_is ∙ c.requires.first in
    let going : is_done c.self.inside.stage ≡ false = ap (λ s. s.is_over) c.self.view_is ∙ c.requires.going in
    let same = at_head g.S.Source.meaning c.self.inside.stage c.self.inside.response c.self.inside.begun.value c.self.inside.given c.self.invariant.stands going first in
    let stands = head_stands g.S.Source.meaning c.self.inside.response c.self.inside.begun.value c.self.inside.given c.in_ok-head.head first same (sym c.has_head.ensures ∙ c.if-not-has_head.false) c.in_ok-head.ensures in
    let kept = c.self.invariant in
    let below = kept.below in
    record {
      read_on = kept.read_on;
      below = omega arith;
      waited = never_waited g.S.Source.meaning c.self.inside.response.body.content;
      chunk = kept.chunk;
      stands = subst (λ (ps : List Piece). InvariantAt g.S.Source.meaning stage.Body c.self.inside.response c.self.inside.begun.value ps) (sym c.push.ensures) stands;
    }
