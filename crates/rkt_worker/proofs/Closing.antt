-- What is known of a closed board is what is legal.
use Rattle.std.proofs.Common.{◌≡◌, ◌<◌, ◌++◌, ◌∙◌, ℕ, List, IsSome, Option, None, Some, true, refl, sym, ap, subst, arith}
use Rattle.std.proofs.lemmas.Grind.{common_steps}
use Rattle.std.proofs.lemmas.List.Folds.{list_any-append}
use Rattle.std.specs.List.{AllByRecursion, list_any}
use Rattle.rkt_exchange.specs.Tables.{SeenTables}
use Rattle.rkt_link.specs.Asked.{Asked}
use Rattle.rkt_board.proofs.Core.{found_trip}
use Rattle.rkt_board.specs.Closed.{AllAdmitted, HasCausedEntry as Entered}
use Rattle.rkt_board.specs.Events.{is_trip, admitted, trip_of, Ordered, IsClosed, EachEndsOnce}
use Rattle.rkt_board.specs.declared.history.EventOf.{EventOf}
use Rattle.rkt_worker.specs.Causes.{AllCaused, CauseAt}
use Rattle.rkt_worker.specs.Gates.{word_in}
use Rattle.rkt_worker.specs.Headline.{AllTimed, HasEntry, IsCallers, IsLegal}
use Rattle.rkt_worker.specs.Serving.{Launching}

module _ {C R L : Type 0} where
  -- a Trip that has a word is there, and in all that begins so
  some_trip : (es : List (EventOf C R L)) → IsSome (word_in (trip_of es)) → list_any is_trip es ≡ true
  some_trip es some = by_trip (trip_of es) refl some
    where
      by_trip : (t : Option (ℕ × ℕ)) → trip_of es ≡ t → IsSome (word_in t) → list_any is_trip es ≡ true
      by_trip None there some = absurd (cc some)
      by_trip (Some t) there some = found_trip es t there

  any_front : (es more : List (EventOf C R L)) → list_any is_trip es ≡ true → list_any is_trip (es ++ more) ≡ true
  any_front es more there = grind (arith, common_steps, list_any-append is_trip es more, there)

module _ {V S C R F FTask GTask STask H HTask K KTask N L : Type 0} (launch : Launching V S C R F FTask GTask STask H HTask K KTask N L) (tables : SeenTables F H K N V) where
  pub entry_of : (given : Option (List Asked)) (es : List (EventOf C R L)) (k : ℕ) → Entered launch.serving.links (CauseAt launch tables) given es k → HasEntry launch.serving tables given es k
  entry_of given es k entered = record {
    entry = entered.entry;
    found = entered.found;
    seen = word_in (trip_of entered.before);
    tripped = λ some. ap (list_any is_trip) entered.stands ∙ any_front entered.before _ (some_trip entered.before some);
    caused = entered.caused.0;
    asks = entered.asks;
  }

  -- what is known of a closed board is what is legal
  pub legal_of : (given : Option (List Asked)) (es seen : List (EventOf C R L)) → Ordered es → IsClosed es → AllCaused launch tables es → EachEndsOnce es
      → ((k : ℕ) → k < admitted es → Entered launch.serving.links (CauseAt launch tables) given es k) → AllAdmitted given es → AllTimed launch.serving.window es → AllByRecursion IsCallers seen → es ≡ seen
      → IsLegal launch tables given es
  legal_of given es seen ordered closed caused once entries all_admitted timed callers is = record {
    ordered = ordered;
    closed = closed;
    caused = caused;
    once = once;
    entries = λ k less. entry_of given es k (entries k less);
    all_admitted = all_admitted;
    timed = timed;
    callers = subst (AllByRecursion IsCallers) (sym is) callers;
  }
