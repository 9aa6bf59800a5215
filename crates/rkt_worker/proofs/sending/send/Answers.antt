use Rattle.std.proofs.Common.{◌∙◌, ap, sym, subst}
use Rattle.rkt_message.specs.Reading.{ReadsOn}
use Rattle.rkt_message.specs.Response.{ResponseOf}
use Rattle.rkt_message.specs.Sending.{ReadOn, Sending}
use Rattle.rkt_worker.proofs.Pieces.{ended_as}
use Rattle.rkt_worker.specs.Gates.{MayStand, word_in}
use Rattle.rkt_worker.proofs.sending.send.Goals as goal

pub put_all-ended-requires-clause-stands : goal.put_all-ended-requires-clause-stands
put_all-ended-requires-clause-stands g c = subst (MayStand (g.G.Gates.watched c.args.gates.now)) (sym c.requires.active) tt

pub returns-clause-read_on : goal.returns-clause-read_on
returns-clause-read_on g c =
    let begun = c.put_all-ended.ensures.begun ∙ ap (λ (s : Sending _). s.begun) c.new-pieces.ensures in
    subst (λ (p : ResponseOf _). ReadOn g.S.Source.meaning p c.into_response.result) begun c.into_response.ensures.read_on

pub returns-clause-ended : goal.returns-clause-ended
returns-clause-ended g c =
    ended_as g.S.Source.meaning c.put_all-ended.result _ _ _ _ _ _ _ _ (ap (λ (s : Sending _). s.turns) c.new-pieces.ensures) (ap (λ (s : Sending _). s.begun) c.new-pieces.ensures)
    (sym c.into_response.ensures.value) c.put_all-ended.ensures.ended

pub returns-clause-reads : goal.returns-clause-reads
returns-clause-reads g c =
    let stream = g.S.Source.meaning in
    let begins = ap (λ (s : Sending _). s.response) c.new-pieces.ensures in
    let seen = word_in (g.G.Gates.watched c.put_all-ended.new.gates).trip in
    subst (λ (p : ResponseOf _). ReadsOn stream seen c.args.response.body.content p.body.content) (sym c.into_response.ensures.value)
    (subst (λ (p : ResponseOf _). ReadsOn stream seen p.body.content c.put_all-ended.new.pieces.response.body.content) begins c.put_all-ended.ensures.reads)
