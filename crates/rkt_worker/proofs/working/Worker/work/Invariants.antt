use Rattle.std.proofs.Common.{◌≡◌, ◌<◌}
use Rattle.rkt_turn.specs.HandsBack.{HandsBack}
use Rattle.rkt_link.specs.Clock.{TellsOn}
use Rattle.rkt_board.specs.Board.{Keeps}
use Rattle.rkt_worker.specs.Lent.{cause_of}
use Rattle.rkt_worker.specs.Serving.{launching, serving}
use Rattle.rkt_worker.specs.Rest.{IsAtRest}
use Rattle.rkt_worker.proofs.working.Worker.work.Given as goal

abbrev pub invariant-loop : goal.invariant-loop
invariant-loop g l =
    (goal.iterator-loop g).can_next l.iterator' × (goal.iterator-loop g).is_finite l.iterator'
    × Keeps g.L.Link.Link.meaning g.L.Listener.meaning g.C.Clock.meaning (cause_of (λ window. launching g.A.Reason.Reason.allowed g.A.Fairing.Shuts.ShutdownCallback.calling (serving g.A-Fairing-Requests-RequestCallback.calling g.A.Fairing.Responses.ResponseCallback.calling g.A-Handler-Handler.calling g.A.Catch.CatchHandler.calling g.A.Source.Source.meaning g.A.Stream.Source.meaning g.L.Link.Link.meaning window))) l.board
    × (l.board.name ≡ l.initial.board.name)
    × TellsOn (g.C.Clock.meaning l.initial.board.outside.clock) (g.C.Clock.meaning l.board.outside.clock)
    × HandsBack l.initial.shutdown l.shutdown
    × IsAtRest l.board.log.records.items
    × (l.shutdown.wire ≡ l.board.name.handle.value.wire)
    × ((0 < l.initial.shutdown.seen → 0 < l.initial.board.outside.handle.seen) → 0 < l.shutdown.seen → 0 < l.board.outside.handle.seen)
