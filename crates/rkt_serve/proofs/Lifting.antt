-- How a launch leaves the rocket that it lifted off.
use Rattle.std.proofs.Common.{◌≡◌, ◌<◌, ◌≤◌, ◌+◌, ◌∙◌, ℕ, List, ap, arith}
use Rattle.rkt_board.specs.Events.{admitted, lift_calls}
use Rattle.rkt_board.specs.declared.closing.ClosedOf.{ClosedOf}
use Rattle.rkt_board.specs.declared.history.EventOf.{EventOf}
use Rattle.rkt_board.specs.declared.history.HistoryOf.{HistoryOf}
use Rattle.rkt_life.specs.Rocket.{SeenRocket}
use Rattle.rkt_exchange.specs.Tables.{SeenTables}
use Rattle.rkt_fairing.specs.Calls.{CallingAtLiftoff}
use Rattle.rkt_fairing.specs.Lifts.{Lifts}
use Rattle.rkt_fairing.specs.declared.called.Called.{Called}
use Rattle.rkt_turn.specs.HandsBackLaws.{hands_back_more}
use Rattle.rkt_serve.specs.Left.{IsLeft}
use Rattle.rkt_serve.specs.Lifted.{LiftsOff, IsLifted}
use Rattle.rkt_exchange.specs.View.{view_of}
use Rattle.rkt_serve.specs.declared.error.LaunchedOf.{LaunchedOf}
use Rattle.rkt_turn.specs.HandsBack.{HandsBack}
use Rattle.rkt_turn.specs.Shutdown.{Handle}

module _ {F H K N V Task X Q C R L : Type 0} (calling : CallingAtLiftoff H K N V F Task) (rocket : SeenRocket F H K N V) (tables : SeenTables F H K N V) (table : List (List ℕ × List ℕ))
    (closed : ClosedOf X Q Handle (HistoryOf C R L)) (calls : List Called) (left : Handle) where
  -- the callbacks of liftoff led from a rocket to the tables that a launch went by
  pub lifted_off : Lifts calling (view_of rocket.tables) (record { fairings = rocket.tables.fairings; shutdown = rocket.handle }) calls (record { fairings = tables.fairings; shutdown = left })
      → tables ≡ record rocket.tables { fairings = tables.fairings } → table ≡ rocket.table
      → lift_calls closed.history.events ≡ calls → HandsBack left closed.handle → left.looked + admitted closed.history.events ≤ closed.handle.looked → (0 < left.seen → admitted closed.history.events ≡ 0)
      → (launched : LaunchedOf (SeenRocket F H K N V) X Q (HistoryOf C R L)) → IsLeft tables table closed launched
      → IsLifted (LiftsOff calling rocket) launched.history.events launched.rocket
  lifted_off lifts same told first back looked still launched is =
      let counts : admitted launched.history.events ≡ admitted closed.history.events = ap (λ (h : HistoryOf C R L). admitted h.events) is.history in
      record {
        left = left;
        lifts_off = record {
          lifts = rw (is.tables_are, ap (λ (h : HistoryOf C R L). lift_calls h.events) is.history, first) lifts;
          tables = rw is.tables_are same;
          table = is.table_is ∙ told;
        };
        back = hands_back_more left closed.handle launched.rocket.handle back is.handle;
        looked = let x : ℕ = admitted launched.history.events in let y : ℕ = admitted closed.history.events in let q : x ≡ y = counts in let h : closed.handle.looked ≤ launched.rocket.handle.looked = is.handle.looked in
            let l : left.looked + y ≤ closed.handle.looked = looked in let g : left.looked + x ≤ launched.rocket.handle.looked = omega (arith, q, h, l) in g;
        still = λ some. counts ∙ still some;
      }

-- what is lifted off so is in another way too
pub lifted_as : {F H K N V C R L : Type 0} (P P' : List Called → Handle → SeenRocket F H K N V → Type 0) (events : List (EventOf C R L)) (rocket : SeenRocket F H K N V)
    → ((calls : List Called) (left : Handle) → P calls left rocket → P' calls left rocket) → IsLifted P events rocket → IsLifted P' events rocket
lifted_as P P' events rocket so lifted = record {
  left = lifted.left;
  lifts_off = so (lift_calls events) lifted.left lifted.lifts_off;
  back = lifted.back;
  looked = lifted.looked;
  still = lifted.still;
}
