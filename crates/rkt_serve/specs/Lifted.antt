-- A rocket that was lifted off.
use Rattle.std.specs.Prelude.{◌≡◌, ◌<◌, ◌≤◌, ◌+◌, List}
use Rattle.rkt_board.specs.Events.{admitted, lift_calls}
use Rattle.rkt_board.specs.declared.history.EventOf.{EventOf}
use Rattle.rkt_life.specs.Rocket.{SeenRocket}
use Rattle.rkt_fairing.specs.Calls.{CallingAtLiftoff}
use Rattle.rkt_fairing.specs.Lifts.{Lifts}
use Rattle.rkt_fairing.specs.declared.called.Called.{Called}
use Rattle.rkt_turn.specs.HandsBack.{HandsBack}
use Rattle.rkt_turn.specs.Shutdown.{Handle}
use Rattle.rkt_exchange.specs.View.{view_of}

-- F is the type of fairings, H that of handlers, K that of catchers' handlers, N that of what sentries ask, V that of managed
-- values

-- These calls, one of each fairing that is called at liftoff, lead from a rocket to another one and to a handle of its
-- wire. But for the fairings, its tables stay.
pub record LiftsOff {F H K N V Task : Type 0} (calling : CallingAtLiftoff H K N V F Task) (before : SeenRocket F H K N V)
    (calls : List Called) (left : Handle) (after : SeenRocket F H K N V) : Type 0 where
  pub lifts : Lifts calling (view_of before.tables) (record { fairings = before.tables.fairings; shutdown = before.handle })
      calls (record { fairings = after.tables.fairings; shutdown = left })
  pub tables : after.tables ≡ record before.tables { fairings = after.tables.fairings }
  pub table : after.table ≡ before.table

-- a rocket that was lifted off so, and then served what a history tells
pub record IsLifted {F H K N V C R L : Type 0} (lifts : List Called → Handle → SeenRocket F H K N V → Type 0)
    (events : List (EventOf C R L)) (rocket : SeenRocket F H K N V) : Type 0 where
  -- the handle of the wire, as the callbacks of liftoff left it
  pub left : Handle
  pub lifts_off : lifts (lift_calls events) left rocket
  -- and that is the one that comes back
  pub back : HandsBack left rocket.handle
  -- from then on the wire was looked at once for each link at least
  pub looked : left.looked + admitted events ≤ rocket.handle.looked
  -- where the handle had seen a word by then, nothing was admitted
  pub still : 0 < left.seen → admitted events ≡ 0
