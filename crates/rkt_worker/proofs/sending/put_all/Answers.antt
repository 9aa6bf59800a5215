use Rattle.std.proofs.Common.{Err, ◌∙◌, ◌++◌, ◌∷◌, [], ap, sym}
use Rattle.rkt_link.specs.Link.{LinkMeaning, with_taken}
use Rattle.rkt_message.specs.Sent.{has_head}
use Rattle.rkt_worker.proofs.Outcomes.{put_cuts}
use Rattle.rkt_worker.proofs.Pieces.{with_taken-nil, with_taken-with_taken}
use Rattle.rkt_worker.proofs.BodyReads.{reads_none}
use Rattle.rkt_worker.proofs.Cutting.{reads_both}
use Rattle.rkt_worker.proofs.Handings.{stands_on}
use Rattle.rkt_worker.proofs.Sendings.{put_ends, sent_all, sent_fails, sent_front, sent_more, sent_nothing, starved_part}
use Rattle.rkt_worker.proofs.sending.put_all.Goals as goal

pub loop-init : goal.loop-init
loop-init g c = (tt, tt, c.requires.keeps, g.met.G.Gates.stays c.args.gates.now, c.requires.stands, ([], sent_nothing g.S.Source.meaning c.args.pieces.now c.requires.going c.requires.first, sym (with_taken-nil _)), reads_none g.S.Source.meaning _ c.args.pieces.now.response.body.content)

pub loop-preserved : goal.loop-preserved
loop-preserved g c =
    let inv = c.loop.invariant in
    let partly = inv.5 in
    let piece = c.in-Ok.piece in
    let put = c.put.ensures in
    let taken = rw c.in_default.is at put.put in (
      tt,
      tt,
      put.keeps,
      g.met.G.Gates.goes_on _ _ _ put.keeps (g.met.G.Gates.goes_on _ _ _ c.next_piece.ensures.keeps inv.3 c.next_piece.ensures.leads) put.leads,
      taken.1,
      (
        partly.0 ++ piece ∷ [],
        sent_more g.S.Source.meaning c.args.pieces.now c.loop.pieces c.next_piece.new.pieces partly.0 piece partly.1 c.in-Ok.ensures.piece c.next_piece.ensures.begun c.next_piece.ensures.turns c.next_piece.ensures.read_on (λ is. absurd (cc (c.is_end-last.ensures.1 is, c.if-last.false))),
        taken.0 ∙ ap (λ (m : LinkMeaning). with_taken m (piece ∷ [])) partly.2 ∙ with_taken-with_taken _ partly.0 (piece ∷ []),
      ),
      reads_both g.S.Source.meaning _ _ _ _ _ _ (g.met.G.Gates.tells _ _ c.next_piece.ensures.leads) (g.met.G.Gates.tells _ _ put.leads) inv.6 c.next_piece.ensures.reads,
    )

pub next_piece-requires : goal.next_piece-requires
next_piece-requires g c = record { keeps = c.loop.invariant.2; going = c.loop.invariant.5.1.going; read_on = c.loop.invariant.5.1.read_on }

pub put-requires : goal.put-requires
put-requires g c = record {
  keeps = c.next_piece.ensures.keeps;
  stands = stands_on _ _ c.loop.io.stage (g.met.G.Gates.tells _ _ c.next_piece.ensures.leads) c.loop.invariant.4;
}

pub returns-in-Err-BadHead : goal.returns-in-Err-BadHead
returns-in-Err-BadHead g c =
    let inv = c.loop.invariant in
    let next = c.next_piece.ensures in
    let bad = c.in-Err-BadHead.ensures.bad_head (ap (λ e. Err e) c.in-Err-BadHead.field-0-is) in
    record {
      keeps = next.keeps;
      leads = g.met.G.Gates.goes_on _ _ _ next.keeps inv.3 next.leads;
      begun = next.begun ∙ inv.5.1.begun;
      reads = reads_both g.S.Source.meaning _ _ _ _ _ _ (g.met.G.Gates.tells _ _ next.leads) (g.met.G.Gates.tells _ _ (g.met.G.Gates.stays _)) inv.6 next.reads;
      ended = (inv.5.0, (ap has_head (sym inv.5.1.begun) ∙ bad.1, inv.5.1.at_head bad.0), inv.5.2);
      cut = tt;
      asked = ap (λ (m : LinkMeaning). m.asked) inv.5.2;
    }

pub returns-in-Err-BodyFault : goal.returns-in-Err-BodyFault
returns-in-Err-BodyFault g c =
    let inv = c.loop.invariant in
    let next = c.next_piece.ensures in
    let fault = c.in-Err-BodyFault.ensures.body_fault (ap (λ e. Err e) c.in-Err-BodyFault.field-0-is) in
    record {
      keeps = next.keeps;
      leads = g.met.G.Gates.goes_on _ _ _ next.keeps inv.3 next.leads;
      begun = next.begun ∙ inv.5.1.begun;
      reads = reads_both g.S.Source.meaning _ _ _ _ _ _ (g.met.G.Gates.tells _ _ next.leads) (g.met.G.Gates.tells _ _ (g.met.G.Gates.stays _)) inv.6 next.reads;
      ended = (inv.5.0, sent_fails g.S.Source.meaning c.args.pieces.now c.loop.pieces inv.5.0 c.next_piece.new.pieces.response inv.5.1 fault, inv.5.2);
      cut = tt;
      asked = ap (λ (m : LinkMeaning). m.asked) inv.5.2;
    }

pub returns-in-Err-NoMemory : goal.returns-in-Err-NoMemory
returns-in-Err-NoMemory g c =
    let inv = c.loop.invariant in
    let next = c.next_piece.ensures in
    record {
      keeps = next.keeps;
      leads = g.met.G.Gates.goes_on _ _ _ next.keeps inv.3 next.leads;
      begun = next.begun ∙ inv.5.1.begun;
      reads = reads_both g.S.Source.meaning _ _ _ _ _ _ (g.met.G.Gates.tells _ _ next.leads) (g.met.G.Gates.tells _ _ (g.met.G.Gates.stays _)) inv.6 next.reads;
      ended = (inv.5.0, starved_part g.S.Source.meaning c.args.pieces.now c.loop.pieces inv.5.0 inv.5.1, inv.5.2);
      cut = tt;
      asked = ap (λ (m : LinkMeaning). m.asked) inv.5.2;
    }

pub returns-in-Some-put : goal.returns-in-Some-put
returns-in-Some-put g c =
    let inv = c.loop.invariant in
    let next = c.next_piece.ensures in
    let put = c.put.ensures in
    let over = rw c.in-Some-put.is at put.put in
    let front = sent_front g.S.Source.meaning c.args.pieces.now c.loop.pieces c.next_piece.new.pieces inv.5.0 c.in-Ok.piece inv.5.1 c.in-Ok.ensures.piece next.begun in
    let ends = put_ends g.K.Link.meaning g.S.Source.meaning _ c.loop.io c.put.new.io c.in-Ok.piece c.in-Some-put.ended c.args.pieces.now.turns c.args.pieces.now.begun c.next_piece.new.pieces.response inv.5.0 (g.K.Link.meaning c.args.io.now.io) over front inv.5.2 in
    record {
      keeps = put.keeps;
      leads = g.met.G.Gates.goes_on _ _ _ put.keeps (g.met.G.Gates.goes_on _ _ _ next.keeps inv.3 next.leads) put.leads;
      begun = next.begun ∙ inv.5.1.begun;
      reads = reads_both g.S.Source.meaning _ _ _ _ _ _ (g.met.G.Gates.tells _ _ next.leads) (g.met.G.Gates.tells _ _ put.leads) inv.6 next.reads;
      ended = (inv.5.0, ends.0, ends.1);
      cut = put_cuts g.K.Link.meaning (g.G.Gates.watched c.put.new.gates) c.loop.io c.put.new.io c.in-Ok.piece c.in-Some-put.ended over;
      asked = put.asked ∙ ap (λ (m : LinkMeaning). m.asked) inv.5.2;
    }

pub returns-then-last : goal.returns-then-last
returns-then-last g c =
    let inv = c.loop.invariant in
    let next = c.next_piece.ensures in
    let put = c.put.ensures in
    let piece = c.in-Ok.piece in
    let taken = rw c.in_default.is at put.put in
    record {
      keeps = put.keeps;
      leads = g.met.G.Gates.goes_on _ _ _ put.keeps (g.met.G.Gates.goes_on _ _ _ next.keeps inv.3 next.leads) put.leads;
      begun = next.begun ∙ inv.5.1.begun;
      reads = reads_both g.S.Source.meaning _ _ _ _ _ _ (g.met.G.Gates.tells _ _ next.leads) (g.met.G.Gates.tells _ _ put.leads) inv.6 next.reads;
      ended = (
        inv.5.0 ++ piece ∷ [],
        sent_all g.S.Source.meaning c.args.pieces.now c.loop.pieces c.next_piece.new.pieces inv.5.0 piece inv.5.1 c.in-Ok.ensures.piece next.begun (c.is_end-last.ensures.0 c.if-last.true),
        taken.0 ∙ ap (λ (m : LinkMeaning). with_taken m (piece ∷ [])) inv.5.2 ∙ with_taken-with_taken _ inv.5.0 (piece ∷ []),
      );
      cut = tt;
      asked = put.asked ∙ ap (λ (m : LinkMeaning). m.asked) inv.5.2;
    }
