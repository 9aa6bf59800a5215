use Rattle.std.proofs.Common.{◌≡◌, arith}
use Rattle.std.proofs.lemmas.Grind.{common_steps}
use Rattle.sample_link.proofs.Refusals.{refuses_as}
use Rattle.sample_link.specs.Streaming.{to_send}
use Rattle.sample_link.proofs.stream_link.StreamLinkLink.poll_send.Goals as goal

pub returns-then-is_err-clause-bytes : goal.returns-then-is_err-clause-bytes
returns-then-is_err-clause-bytes g c = (to_send c.args.self.now.left c.args.piece.now, grind (arith, common_steps), grind (arith, common_steps), tt)

pub returns-in-Ready-Err-clause-bytes : goal.returns-in-Ready-Err-clause-bytes
returns-in-Ready-Err-clause-bytes g c =
    let meaning = g.K.Sink.meaning in
    let refused = rw c.in-Ready-Err.field-0-is at c.in-Ready-Err.ensures in
    let before : meaning c.args.self.now.sink ≡ meaning c.self.inside.sink = grind (arith, common_steps) in
    (c.flush.new.self, grind (arith, common_steps), grind (arith, common_steps), rw before (refuses_as meaning _ _ _ _ _ c.give_up.ensures refused.answer))
