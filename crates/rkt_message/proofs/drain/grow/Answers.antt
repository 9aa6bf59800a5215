use Rattle.std.proofs.Common.{◌≡◌, length, arith}
use Rattle.std.proofs.lemmas.List.{with_items_is}
use Rattle.rkt_message.proofs.Readings.{Draws-start, Draws-trans}
use Rattle.rkt_message.proofs.drain.grow.Goals as goal

pub loop-gate-init : goal.loop-gate-init
loop-gate-init g c = (Draws-start g.S.Source.meaning g.S.Source.polled c.args.gate c.args.body.now _, c.requires.within)

pub returns-in-Some-clause-draws : goal.returns-in-Some-clause-draws
returns-in-Some-clause-draws g c =
    let same : length c.pour-now.new.room ≡ c.make_room.new.room.len = omega (arith, c.pour-now.auto.room, c.as_mut_slice.ensures.len) in
    let step = rw (c.as_mut_slice.ensures.value, c.make_room.ensures.front, c.in-Some.is) at c.pour-now.ensures.draws in
    rw (with_items_is c.make_room.new.room c.pour-now.new.room same) (Draws-trans c.loop-gate.invariant.0 step)

pub loop-gate-preserved : goal.loop-gate-preserved
loop-gate-preserved g c =
    let same : length c.pour-now.new.room ≡ c.make_room.new.room.len = omega (arith, c.pour-now.auto.room, c.as_mut_slice.ensures.len) in
    let step = rw (c.as_mut_slice.ensures.value, c.make_room.ensures.front, c.in_default.is) at c.pour-now.ensures.draws in
    (rw (with_items_is c.make_room.new.room c.pour-now.new.room same) (Draws-trans c.loop-gate.invariant.0 step), omega (arith, c.pour-now.ensures.within, same))
