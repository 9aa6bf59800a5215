use Rattle.std.proofs.Common.{take}
use Rattle.rkt_board.specs.Events.{admitted}
use Rattle.rkt_board.proofs.Entries.{places, Noted}
use Rattle.rkt_board.proofs.history.HistoryOf.entries.Given as goal

-- the entries of the events so far
abbrev pub invariant-loop-event : goal.invariant-loop-event
invariant-loop-event g l = Noted (places l.entries.items) (admitted l.self.events) (take l.event-index l.event-items)
