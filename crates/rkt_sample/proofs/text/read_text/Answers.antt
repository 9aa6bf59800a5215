use Rattle.std.proofs.Common.{[], ◌∙◌}
use Rattle.rkt_sample.proofs.Guarded.{never_pending}
use Rattle.rkt_sample.proofs.TextGuard.{text_guarded}
use Rattle.rkt_sample.proofs.text.read_text.Goals as goal

pub unreachable-requires : goal.unreachable-requires
unreachable-requires g c =
    let waits = c.in-Pending.ensures c.args.request.now c.args.body [] 0 c.from_data-reading.ensures in
    absurd (never_pending g.S.Source.meaning g.met.S.ToldSource.at_once c.args.body waits.0)

pub returns : goal.returns
returns g c =
    text_guarded g.S.Source.meaning c.args.request.now c.args.body c.args.gate (record { tells = g.met.S.ToldSource.tells; stays_open = g.met.S.ToldSource.stays_open })
    (record { shuts = g.S.Shut.shuts; polled = g.S.Source.polled }) (λ complete. c.peek_complete.ensures.whole (c.peek_complete.ensures.complete ∙ complete)) c.in-Ready.answer _
    (c.in-Ready.ensures c.args.request.now c.args.body [] 0 c.from_data-reading.ensures)
