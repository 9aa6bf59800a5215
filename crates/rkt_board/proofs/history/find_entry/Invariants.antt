use Rattle.std.proofs.Common.{◌≡◌, drop}
use Rattle.rkt_board.specs.Events.{end_of}
use Rattle.rkt_board.proofs.history.find_entry.Given as goal

-- none of the events so far ends the number
abbrev pub invariant-loop-event : goal.invariant-loop-event
invariant-loop-event g l = end_of l.number (drop l.event-index l.event-items) ≡ end_of l.number l.event-items
