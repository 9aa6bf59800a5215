use Rattle.std.proofs.Common.{◌∙◌, ap, refl}
use Rattle.rkt_base.specs.declared.poll.Poll.TheVariants.{Ready}
use Rattle.rkt_worker.proofs.BodyReads.{reads_none}
use Rattle.rkt_worker.proofs.Cutting.{reads_again}
use Rattle.rkt_worker.proofs.Sendings.{waited_none, waited_more, waited_fails, ready_gives, no_head}
use Rattle.rkt_worker.proofs.sending.next_piece.Goals as goal

pub loop-init : goal.loop-init
loop-init g c = (tt, tt, c.requires.keeps, g.met.G.Gates.stays c.args.gates.now, waited_none g.S.Source.meaning c.args.pieces.now c.requires.read_on, reads_none g.S.Source.meaning _ c.args.pieces.now.response.body.content)

pub loop-preserved : goal.loop-preserved
loop-preserved g c =
    let inv = c.loop.invariant in
    let next = c.next_gate-gate.ensures in
    let pending = c.in-Pending.ensures.pending refl in (
      tt,
      tt,
      next.keeps,
      g.met.G.Gates.goes_on _ _ _ next.keeps inv.3 next.leads,
      waited_more g.S.Source.meaning c.args.pieces.now c.loop.pieces c.poll_next.new.self inv.4 pending.1 c.poll_next.ensures.begun c.poll_next.ensures.turns c.poll_next.ensures.read_on,
      reads_again g.S.Source.meaning _ _ c.next_gate-gate.result _ _ _ (g.met.G.Gates.tells _ _ next.leads) next.gate inv.5 c.poll_next.ensures.reads.body.content,
    )

pub returns-in-Ready-clause-leads : goal.returns-in-Ready-clause-leads
returns-in-Ready-clause-leads g c = g.met.G.Gates.goes_on _ _ _ c.next_gate-gate.ensures.keeps c.loop.invariant.3 c.next_gate-gate.ensures.leads

pub returns-in-Ready-clause-piece : goal.returns-in-Ready-clause-piece
returns-in-Ready-clause-piece g c = ready_gives g.S.Source.meaning c.args.pieces.now c.loop.pieces c.poll_next.new.self c.in-Ready.answer c.loop.invariant.4 c.in-Ready.ensures.piece c.in-Ready.ensures.front

pub returns-in-Ready-clause-bad_head : goal.returns-in-Ready-clause-bad_head
returns-in-Ready-clause-bad_head g c is = no_head g.S.Source.meaning c.args.pieces.now c.loop.pieces c.loop.invariant.4 (c.in-Ready.ensures.bad_head.0 (ap (λ answer. Ready answer) is))

pub returns-in-Ready-clause-body_fault : goal.returns-in-Ready-clause-body_fault
returns-in-Ready-clause-body_fault g c is =
    let waited = c.loop.invariant.4 in
    let fault = c.in-Ready.ensures.body_fault (ap (λ answer. Ready answer) is) in
    (λ none. fault.0 (waited.given ∙ none), waited_fails g.S.Source.meaning c.args.pieces.now c.loop.pieces c.poll_next.new.self waited fault.0 fault.1)

pub returns-in-Ready-clause-reads : goal.returns-in-Ready-clause-reads
returns-in-Ready-clause-reads g c =
    reads_again g.S.Source.meaning _ _ c.next_gate-gate.result _ _ _ (g.met.G.Gates.tells _ _ c.next_gate-gate.ensures.leads) c.next_gate-gate.ensures.gate c.loop.invariant.5 c.poll_next.ensures.reads.body.content
