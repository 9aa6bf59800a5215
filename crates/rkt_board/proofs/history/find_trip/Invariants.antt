use Rattle.std.proofs.Common.{◌≡◌, drop}
use Rattle.rkt_board.specs.Events.{trip_of}
use Rattle.rkt_board.proofs.history.find_trip.Given as goal

-- none of the events so far is a Trip
abbrev pub invariant-loop-event : goal.invariant-loop-event
invariant-loop-event g l = trip_of (drop l.event-index l.event-items) ≡ trip_of l.event-items
