use Rattle.std.proofs.Common.{◌≡◌, drop}
use Rattle.rkt_board.specs.Events.{trip_of}
use Rattle.rkt_board.specs.Records.{events}
use Rattle.rkt_board.proofs.log_record.recorded_trip.Given as goal

-- none of the events so far is a Trip
abbrev pub invariant-loop-logged : goal.invariant-loop-logged
invariant-loop-logged g l = trip_of (events (drop l.logged-index l.records)) ≡ trip_of (events l.records)
