use Rattle.std.proofs.Common.{◌≡◌, ◌∙◌, false, ap, sym, subst, arith, rules}
use Rattle.std.specs.List.{list_any}
use Rattle.rkt_board.specs.Events.{is_close}
use Rattle.rkt_board.specs.Records.{events}
use Rattle.rkt_link.proofs.Telling.{tells_then}
use Rattle.rkt_turn.specs.HandsBackLaws.{hands_back_more}
use Rattle.rkt_worker.proofs.Boards.{seen_on, trip_entered}
use Rattle.rkt_worker.specs.Rest.{IsAtRest}
use Rattle.rkt_worker.proofs.Resting.{busy_given, busy_trip, rest_end, rest_trip}
use Rattle.rkt_worker.proofs.working.Worker.work.Goals as goal

pub loop-preserved : goal.loop-preserved
loop-preserved g c =
    let inv = c.loop.invariant in
    let turned = c.in-Given.ensures.turned in
    let served = c.serve_given.ensures in
    let busy = busy_given c.loop.board.log.records.items c.turn.new.board.log.records.items c.in-Given.number c.in-Given.moment turned.0 inv.6 turned.2 in (
      tt,
      tt,
      served.keeps,
      served.name ∙ (c.turn.ensures.name ∙ inv.3),
      tells_then _ _ _ inv.4 (tells_then _ _ _ c.turn.ensures.clock served.clock),
      hands_back_more _ _ _ inv.5 c.in-Some-serve_given.ensures.handle,
      rest_end served.adds.2 c.serve_given.new.board.log.records.items c.in-Given.number served.adds.1 served.adds.0 (busy_trip c.in-Given.number 0 c.turn.new.board.log.records.items served.adds.2 busy served.adds.3) served.adds.4,
      c.in-Some-serve_given.ensures.handle.wire ∙ (inv.7 ∙ sym (ap (λ n. n.handle.value.wire) (served.name ∙ c.turn.ensures.name))),
      λ first some. absurd (omega (arith, some, c.in-Some-serve_given.ensures.unseen)),
    )

pub loop-preserved-in-Again : goal.loop-preserved-in-Again
loop-preserved-in-Again g c =
    let inv = c.loop.invariant in
    let turned = c.turn.ensures in (
      tt,
      tt,
      turned.keeps,
      turned.name ∙ inv.3,
      tells_then _ _ _ inv.4 turned.clock,
      inv.5,
      subst IsAtRest (sym c.in-Again.ensures.turned) inv.6,
      inv.7 ∙ sym (ap (λ n. n.handle.value.wire) turned.name),
      λ first some. seen_on c.loop.board.outside.handle c.turn.new.board.outside.handle turned.handle (inv.8 first some),
    )

-- where the last turn entered a Trip, or one stood there already
pub returns-in-Tripped-clause-tripped : goal.returns-in-Tripped-clause-tripped
returns-in-Tripped-clause-tripped g c some =
    let turned = c.in-Tripped.ensures.turned in
    trip_entered c.loop.board.log.records.items c.turn.new.board.log.records.items 0 turned.0 turned.1 turned.2

pub returns-in-Tripped-clause-lent : goal.returns-in-Tripped-clause-lent
returns-in-Tripped-clause-lent g c first some =
    let turned = c.in-Tripped.ensures.turned in
    trip_entered c.loop.board.log.records.items c.turn.new.board.log.records.items 0 turned.0 turned.1 turned.2

pub returns-in-Stop-clause-tripped : goal.returns-in-Stop-clause-tripped
returns-in-Stop-clause-tripped g c some =
    c.in-Stop.ensures.stops some (subst (λ ms. list_any is_close (events ms) ≡ false) (sym c.in-Stop.ensures.turned) c.loop.invariant.6.unclosed)

pub returns-in-Stop-clause-lent : goal.returns-in-Stop-clause-lent
returns-in-Stop-clause-lent g c first some =
    c.in-Stop.ensures.stops (seen_on c.loop.board.outside.handle c.turn.new.board.outside.handle c.turn.ensures.handle (c.loop.invariant.8 first some))
    (subst (λ ms. list_any is_close (events ms) ≡ false) (sym c.in-Stop.ensures.turned) c.loop.invariant.6.unclosed)

pub returns-in-None-serve_given-clause-tripped : goal.returns-in-None-serve_given-clause-tripped
returns-in-None-serve_given-clause-tripped g c some = c.serve_given.ensures.left (search rules)

pub returns-in-None-serve_given-clause-rest : goal.returns-in-None-serve_given-clause-rest
returns-in-None-serve_given-clause-rest g c =
    let inv = c.loop.invariant in
    let turned = c.in-Given.ensures.turned in
    let served = c.serve_given.ensures in
    let busy = busy_given c.loop.board.log.records.items c.turn.new.board.log.records.items c.in-Given.number c.in-Given.moment turned.0 inv.6 turned.2 in
    rest_end served.adds.2 c.serve_given.new.board.log.records.items c.in-Given.number served.adds.1 served.adds.0 (busy_trip c.in-Given.number 0 c.turn.new.board.log.records.items served.adds.2 busy served.adds.3) served.adds.4

pub returns-in-Tripped-clause-rest : goal.returns-in-Tripped-clause-rest
returns-in-Tripped-clause-rest g c =
    let turned = c.in-Tripped.ensures.turned in
    rest_trip c.loop.board.log.records.items c.turn.new.board.log.records.items 0 turned.0 turned.1 c.loop.invariant.6 turned.2

pub returns-in-None-serve_given-clause-name : goal.returns-in-None-serve_given-clause-name
returns-in-None-serve_given-clause-name g c = c.serve_given.ensures.name ∙ (c.turn.ensures.name ∙ c.loop.invariant.3)

pub returns-in-None-serve_given-clause-clock : goal.returns-in-None-serve_given-clause-clock
returns-in-None-serve_given-clause-clock g c = tells_then _ _ _ c.loop.invariant.4 (tells_then _ _ _ c.turn.ensures.clock c.serve_given.ensures.clock)

pub returns-in-None-serve_given-clause-keeps : goal.returns-in-None-serve_given-clause-keeps
returns-in-None-serve_given-clause-keeps g c = c.serve_given.ensures.keeps

pub returns-in-Tripped-clause-name : goal.returns-in-Tripped-clause-name
returns-in-Tripped-clause-name g c = c.turn.ensures.name ∙ c.loop.invariant.3

pub returns-in-Tripped-clause-handle : goal.returns-in-Tripped-clause-handle
returns-in-Tripped-clause-handle g c = c.loop.invariant.5

pub returns-in-Tripped-clause-clock : goal.returns-in-Tripped-clause-clock
returns-in-Tripped-clause-clock g c = tells_then _ _ _ c.loop.invariant.4 c.turn.ensures.clock

pub returns-in-Tripped-clause-keeps : goal.returns-in-Tripped-clause-keeps
returns-in-Tripped-clause-keeps g c = c.turn.ensures.keeps

pub returns-in-Stop-clause-name : goal.returns-in-Stop-clause-name
returns-in-Stop-clause-name g c = c.turn.ensures.name ∙ c.loop.invariant.3

pub returns-in-Stop-clause-handle : goal.returns-in-Stop-clause-handle
returns-in-Stop-clause-handle g c = c.loop.invariant.5

pub returns-in-Stop-clause-clock : goal.returns-in-Stop-clause-clock
returns-in-Stop-clause-clock g c = tells_then _ _ _ c.loop.invariant.4 c.turn.ensures.clock

pub returns-in-Stop-clause-keeps : goal.returns-in-Stop-clause-keeps
returns-in-Stop-clause-keeps g c = c.turn.ensures.keeps

pub serve_given-requires-clause-keeps : goal.serve_given-requires-clause-keeps
serve_given-requires-clause-keeps g c = c.turn.ensures.keeps
