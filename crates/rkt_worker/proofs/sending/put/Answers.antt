use Rattle.std.proofs.Common.{◌∙◌, ◌∷◌, [], ap, inl, refl, subst}
use Rattle.rkt_link.specs.Link.{Faults, LinkMeaning, with_taken}
use Rattle.rkt_message.specs.declared.piece.Piece.{Piece}
use Rattle.rkt_worker.proofs.Handings.{cut_on, cut_past, put_cut, stands_next, stands_on, stands_then}
use Rattle.rkt_worker.proofs.sending.put.Goals as goal

pub loop-init : goal.loop-init
loop-init g c = (tt, tt, c.requires.keeps, g.met.G.Gates.stays c.args.gates.now, c.requires.stands, refl, refl)

pub loop-preserved : goal.loop-preserved
loop-preserved g c =
    let inv = c.loop.invariant in
    let next = c.next_gate-gate.ensures in
    let over = rw (c.in-Ready-Ok-Back.field-0-is, c.in-Ready-Ok-Back.field-0-0-is) at c.in-Ready-Ok-Back.ensures in (
      tt,
      tt,
      next.keeps,
      g.met.G.Gates.goes_on _ _ _ next.keeps inv.3 next.leads,
      stands_then _ _ c.next_gate-gate.result c.loop.io.stage c.hand_over.new.io.stage (g.met.G.Gates.tells _ _ next.leads) next.gate inv.4 over.1,
      over.2 ∙ inv.5,
      over.3 ∙ inv.6,
    )

pub returns-in-Ready-Ok-Taken : goal.returns-in-Ready-Ok-Taken
returns-in-Ready-Ok-Taken g c =
    let inv = c.loop.invariant in
    let next = c.next_gate-gate.ensures in
    let over = rw (c.in-Ready-Ok-Taken.field-0-is, c.in-Ready-Ok-Taken.field-0-0-is) at c.in-Ready-Ok-Taken.ensures in
    record {
      keeps = next.keeps;
      leads = g.met.G.Gates.goes_on _ _ _ next.keeps inv.3 next.leads;
      put = (
        over.2 ∙ (ap (λ (m : LinkMeaning). with_taken m (c.loop.piece ∷ [])) inv.5 ∙ ap (λ (p : Piece). with_taken (g.K.Link.meaning c.args.io.now.io) (p ∷ [])) inv.6),
        stands_then _ _ c.next_gate-gate.result c.loop.io.stage c.hand_over.new.io.stage (g.met.G.Gates.tells _ _ next.leads) next.gate inv.4 over.1,
      );
      asked = ap (λ (m : LinkMeaning). m.asked) over.2 ∙ ap (λ (m : LinkMeaning). m.asked) inv.5;
    }

pub returns-in-Ready-Ok-Refused-Fault : goal.returns-in-Ready-Ok-Refused-Fault
returns-in-Ready-Ok-Refused-Fault g c =
    let inv = c.loop.invariant in
    let next = c.next_gate-gate.ensures in
    let over = rw (c.in-Ready-Ok-Refused-Fault.field-0-is, c.in-Ready-Ok-Refused-Fault.field-0-0-is, c.in-Ready-Ok-Refused-Fault.field-0-0-0-is) at c.in-Ready-Ok-Refused-Fault.ensures in
    record {
      keeps = next.keeps;
      leads = g.met.G.Gates.goes_on _ _ _ next.keeps inv.3 next.leads;
      put = subst (λ (m : LinkMeaning). Faults m (g.K.Link.meaning c.hand_over.new.io.io)) inv.5 over.2;
      asked = ap (λ (m : LinkMeaning). m.asked) over.2.only ∙ ap (λ (m : LinkMeaning). m.asked) inv.5;
    }

pub returns-in-Ready-Ok-Refused-NoMemory : goal.returns-in-Ready-Ok-Refused-NoMemory
returns-in-Ready-Ok-Refused-NoMemory g c =
    let inv = c.loop.invariant in
    let next = c.next_gate-gate.ensures in
    let over = rw (c.in-Ready-Ok-Refused-NoMemory.field-0-is, c.in-Ready-Ok-Refused-NoMemory.field-0-0-is, c.in-Ready-Ok-Refused-NoMemory.field-0-0-0-is) at c.in-Ready-Ok-Refused-NoMemory.ensures in
    record {
      keeps = next.keeps;
      leads = g.met.G.Gates.goes_on _ _ _ next.keeps inv.3 next.leads;
      put = over.2 ∙ inv.5;
      asked = ap (λ (m : LinkMeaning). m.asked) (over.2 ∙ inv.5);
    }

pub returns-in-Ready-Err : goal.returns-in-Ready-Err
returns-in-Ready-Err g c =
    let inv = c.loop.invariant in
    let next = c.next_gate-gate.ensures in
    let watched = g.G.Gates.watched c.next_gate-gate.new.self in
    let gate = c.next_gate-gate.result in
    let stands = stands_next watched gate next.gate c.loop.io.stage (stands_on _ watched c.loop.io.stage (g.met.G.Gates.tells _ _ next.leads) inv.4) in
    let over = rw c.in-Ready-Err.field-0-is at c.in-Ready-Err.ensures in
    record {
      keeps = next.keeps;
      leads = g.met.G.Gates.goes_on _ _ _ next.keeps inv.3 next.leads;
      put = put_cut g.K.Link.meaning watched c.args.io.now c.hand_over.new.io c.args.piece c.cut_off.result over.0 over.1 (c.cut_off.ensures over.0 over.1 over.3) (over.4 ∙ inv.5) over.3 (cut_past watched gate next.gate _ over.0 over.1 over.2 stands);
      asked = ap (λ (m : LinkMeaning). m.asked) (over.4 ∙ inv.5);
    }

pub shut_down-requires : goal.shut_down-requires
shut_down-requires g c = record { keeps = c.next_gate-gate.ensures.keeps; past = (c.in-Pending.ensures.0, c.in-Pending.ensures.1, c.in-Pending.ensures.3) }

pub returns-in-Pending : goal.returns-in-Pending
returns-in-Pending g c =
    let inv = c.loop.invariant in
    let next = c.next_gate-gate.ensures in
    let watched = g.G.Gates.watched c.next_gate-gate.new.self in
    let gate = c.next_gate-gate.result in
    let stands = stands_next watched gate next.gate c.loop.io.stage (stands_on _ watched c.loop.io.stage (g.met.G.Gates.tells _ _ next.leads) inv.4) in
    let over = c.in-Pending.ensures in
    let shut = c.shut_down.ensures in
    let ended = shut.ended over.0 over.1 over.3 in
    record {
      keeps = shut.keeps;
      leads = g.met.G.Gates.goes_on _ _ _ shut.keeps (g.met.G.Gates.goes_on _ _ _ next.keeps inv.3 next.leads) shut.leads;
      put = put_cut g.K.Link.meaning (g.G.Gates.watched c.shut_down.new.gates) c.args.io.now c.shut_down.new.io c.args.piece c.shut_down.result over.0 over.1 ended.0 (ended.2 ∙ (over.4 ∙ inv.5)) ended.1
          (cut_on watched _ over.0 over.1 (g.met.G.Gates.tells _ _ shut.leads) (cut_past watched gate next.gate _ over.0 over.1 (inl over.2) stands));
      asked = ap (λ (m : LinkMeaning). m.asked) (ended.2 ∙ (over.4 ∙ inv.5));
    }
