-- Looks at a board follow one another.
use Rattle.std.proofs.Common.{◌≡◌, ◌++◌, ◌∙◌, ℕ, List, [], ◌∷◌, Some, arith, refl, ap, sym, append-nil, append_assoc}
use Rattle.std.proofs.lemmas.List.{map-append}
use Rattle.std.specs.List.{AllByRecursion}
use Rattle.rkt_link.specs.Clock.{ClockMeaning}
use Rattle.rkt_exchange.specs.Tables.{SeenTables}
use Rattle.rkt_board.specs.Board.{BoardAs}
use Rattle.rkt_board.specs.Events.{trip_of}
use Rattle.rkt_board.specs.Records.{events}
use Rattle.rkt_board.specs.declared.history.EventOf.{EventOf}
use Rattle.rkt_board.specs.declared.history.EventOf.TheVariants.{Lift, Trip, Admit, End, Down, Close}
use Rattle.rkt_board.specs.declared.log_record.RecordOf.{RecordOf}
use Rattle.rkt_worker.specs.Gates.{WatchedOn}
use Rattle.rkt_worker.specs.Looking.{AddsTrips, IsCallersTrip, LooksOn, watched_by}
use Rattle.rkt_worker.specs.declared.causes.Lent.{Lent}

module _ {C R K : Type 0} where
  all_trips : (xs ys : List (RecordOf C R K))
      → AllByRecursion IsCallersTrip xs
      → AllByRecursion IsCallersTrip ys
      → AllByRecursion IsCallersTrip (xs ++ ys)
  all_trips [] ys one two = two
  all_trips (x ∷ xs) ys one two = (one.0, all_trips xs ys one.1 two)

  adds_then : (a b c : List (RecordOf C R K)) → AddsTrips a b → AddsTrips b c → AddsTrips a c
  adds_then a b c one two = (
    one.0 ++ two.0,
    two.1 ∙ ap (λ (ms : List (RecordOf C R K)). ms ++ two.0) one.1 ∙ append_assoc a one.0 two.0,
    all_trips one.0 two.0 one.2 two.2,
  )

  -- the first Trip stays the first
  pub trip_stays : (es more : List (EventOf C R K)) (trip : ℕ × ℕ) → trip_of es ≡ Some trip → trip_of (es ++ more) ≡ Some trip
  trip_stays [] more trip found = absurd (cc found)
  trip_stays (Trip w m ∷ es) more trip found = found
  trip_stays (Lift calls ∷ es) more trip found = trip_stays es more trip found
  trip_stays (Admit n m b ∷ es) more trip found = trip_stays es more trip found
  trip_stays (End n x m b ∷ es) more trip found = trip_stays es more trip found
  trip_stays (Down calls ∷ es) more trip found = trip_stays es more trip found
  trip_stays (Close m ∷ es) more trip found = trip_stays es more trip found

  trip_still : (old new : List (RecordOf C R K)) (trip : ℕ × ℕ)
      → AddsTrips old new
      → trip_of (events old) ≡ Some trip
      → trip_of (events new) ≡ Some trip
  trip_still old new trip adds found =
      let parts : events new ≡ events old ++ events adds.0 = ap events adds.1
      ∙ map-append (λ (m : RecordOf C R K). m.event) old adds.0 in
      ap trip_of parts ∙ trip_stays (events old) (events adds.0) trip found

module _ {A C R K P L Q : Type 0} (clocks : Q → ClockMeaning) where
  pub looks_same : (board : BoardAs A C R K P L Q) → LooksOn clocks board board
  looks_same board = record {
    name = refl;
    adds = ([], sym (append-nil board.log.records.items), tt);
    clock = record { rises = omega arith; window = refl };
  }

  pub looks_then : (a b c : BoardAs A C R K P L Q) → LooksOn clocks a b → LooksOn clocks b c → LooksOn clocks a c
  looks_then a b c one two = record {
    name = two.name ∙ one.name;
    adds = adds_then a.log.records.items b.log.records.items c.log.records.items one.adds two.adds;
    clock = record { rises = omega (arith, one.clock.rises, two.clock.rises); window = two.clock.window ∙ one.clock.window };
  }

module _ {C R K A F H Y N V L Q : Type 0} (clocks : Q → ClockMeaning) where
  pub looks_tell : (a b : BoardAs A C R K (Lent A (SeenTables F H Y N V)) L Q)
      → LooksOn clocks a b
      → WatchedOn (watched_by clocks a) (watched_by clocks b)
  looks_tell a b looks = record {
    rises = looks.clock.rises;
    window = looks.clock.window;
    grace = ap (λ n. n.served.grace) looks.name;
    mercy = ap (λ n. n.served.mercy) looks.name;
    trip = λ trip found. trip_still a.log.records.items b.log.records.items trip looks.adds found;
  }
