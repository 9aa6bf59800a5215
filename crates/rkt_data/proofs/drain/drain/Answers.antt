use Rattle.std.proofs.Common.{◌≡◌, length, arith}
use Rattle.std.proofs.lemmas.List.{with_items_is}
use Rattle.rkt_data.proofs.Drains.{Draws-start, Draws-into}
use Rattle.rkt_data.proofs.drain.drain.Goals as goal

pub loop-left-init : goal.loop-left-init
loop-left-init g c = (
  Draws-start g.S.Source.meaning g.S.Source.polled c.args.gate c.args.pipe.now _ c.requires.not_probed (c.left-left.ensures.not_probed c.requires.not_probed),
  c.requires.within,
  c.left-left.ensures.left,
)

pub returns-in-End-clause-draws : goal.returns-in-End-clause-draws
returns-in-End-clause-draws g c =
    let draws = rw c.in-End.is at c.pour-now.ensures.draws in
    let same : length c.pour-now.new.room ≡ c.make_room.new.room.len = omega (arith, c.pour-now.auto.room, c.as_mut_slice.ensures.len) in
    Draws-into _ _ c.make_room.new.room.items c.as_mut_slice.ensures.value c.make_room.ensures.front (with_items_is c.make_room.new.room c.pour-now.new.room same) c.loop-left.invariant.0 draws

pub returns-in-Failed-clause-draws : goal.returns-in-Failed-clause-draws
returns-in-Failed-clause-draws g c =
    let draws = rw c.in-Failed.is at c.pour-now.ensures.draws in
    let same : length c.pour-now.new.room ≡ c.make_room.new.room.len = omega (arith, c.pour-now.auto.room, c.as_mut_slice.ensures.len) in
    Draws-into _ _ c.make_room.new.room.items c.as_mut_slice.ensures.value c.make_room.ensures.front (with_items_is c.make_room.new.room c.pour-now.new.room same) c.loop-left.invariant.0 draws

pub returns-in-Waiting-clause-draws : goal.returns-in-Waiting-clause-draws
returns-in-Waiting-clause-draws g c =
    let draws = rw c.in-Waiting.is at c.pour-now.ensures.draws in
    let same : length c.pour-now.new.room ≡ c.make_room.new.room.len = omega (arith, c.pour-now.auto.room, c.as_mut_slice.ensures.len) in
    Draws-into _ _ c.make_room.new.room.items c.as_mut_slice.ensures.value c.make_room.ensures.front (with_items_is c.make_room.new.room c.pour-now.new.room same) c.loop-left.invariant.0 draws

pub loop-left-preserved : goal.loop-left-preserved
loop-left-preserved g c =
    let draws = rw c.in-Full.is at c.pour-now.ensures.draws in
    let same : length c.pour-now.new.room ≡ c.make_room.new.room.len = omega (arith, c.pour-now.auto.room, c.as_mut_slice.ensures.len) in (
      Draws-into _ _ c.make_room.new.room.items c.as_mut_slice.ensures.value c.make_room.ensures.front (with_items_is c.make_room.new.room c.pour-now.new.room same) c.loop-left.invariant.0 draws,
      omega (arith, c.pour-now.ensures.within, same),
      c.left-left-in-loop-left.ensures.left,
    )
