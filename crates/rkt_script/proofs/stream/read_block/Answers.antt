use Rattle.std.proofs.Common.{◌∙◌, ◌<◌, length, refl, arith}
use Rattle.rkt_script.specs.Streams.{Awaits}
use Rattle.rkt_script.proofs.StreamLemmas.{still_unwarned}
use Rattle.rkt_script.proofs.stream.read_block.Goals as goal

pub loop-init : goal.loop-init
loop-init g c = (tt, tt, record { whole = refl; next = λ w is. refl; taken = omega arith; faults = omega arith; unwarned = c.requires.unwarned }, Awaits.none)

pub loop-preserved : goal.loop-preserved
loop-preserved g c =
    let before = g.S.Source.meaning c.loop.source in
    let after = g.S.Source.meaning c.poll_read.new.self in
    let read = c.loop.invariant.2 in
    let kept = c.poll_read.ensures.kept in (
      tt,
      tt,
      record { whole = kept.whole ∙ read.whole; next = λ w is. refl; taken = omega (arith, read.taken, c.in-Pending.ensures.answer.0); faults = omega (arith, read.faults, kept.faults); unwarned = still_unwarned before after kept read.unwarned },
      (let room : 0 < length c.loop.block = omega (arith, c.requires.room, c.loop.auto.block) in Awaits.more c.loop.invariant.3 (_, room, c.in-Pending.ensures.polled room)),
    )
