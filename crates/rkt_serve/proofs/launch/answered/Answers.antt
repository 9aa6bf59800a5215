use Rattle.std.proofs.Common.{◌≡◌, ◌<◌, List, ℕ, ap, refl, subst, sym, ◌∙◌}
use Rattle.rkt_exchange.specs.Tables.{SeenTables}
use Rattle.rkt_life.specs.Rocket.{SeenRocket}
use Rattle.rkt_turn.specs.HandsBack.{HandsBack}
use Rattle.rkt_turn.specs.Shutdown.{Handle}
use Rattle.rkt_board.specs.declared.closing.ClosedOf.{ClosedOf}
use Rattle.rkt_serve.specs.Left.{IsLeft}
use Rattle.rkt_turn.specs.HandsBackLaws.{hands_back_same}
use Rattle.rkt_serve.proofs.launch.answered.Goals as goal

-- what is closed is left with a rocket of these parts
left_with : {F H K N V L C R : Type 0} (tables : SeenTables F H K N V) (table : List (List ℕ × List ℕ)) (closed : ClosedOf L C Handle R) (rocket : SeenRocket F H K N V) → rocket ≡ record { tables = tables; table = table; handle = closed.handle }
    → IsLeft tables table closed (record { rocket = rocket; listener = closed.listener; clock = closed.clock; history = closed.history })
left_with tables table closed rocket is = record {
  tables_are = ap (λ r. r.tables) is;
  table_is = ap (λ r. r.table) is;
  handle = subst (λ h. HandsBack closed.handle h) (sym (ap (λ r. r.handle) is)) (hands_back_same closed.handle);
  listener = refl;
  clock = refl;
  history = refl;
}

-- a handle that comes back is the closed one
tripped_with : {F H K N V : Type 0} (tables : SeenTables F H K N V) (table : List (List ℕ × List ℕ)) (handle : Handle) (rocket : SeenRocket F H K N V) (T : Type 0) → rocket ≡ record { tables = tables; table = table; handle = handle }
    → (0 < handle.seen → T) → 0 < rocket.handle.seen → T
tripped_with tables table handle rocket T is known some = known (subst (λ (n : ℕ). 0 < n) (ap (λ r. r.handle.seen) is) some)

pub returns-then-failed : goal.returns-then-failed
returns-then-failed g c =
    let kind = c.new.ensures in
    record {
      ok = tt;
      over = tt;
      sound = tt;
      none_abandoned = tt;
      kept = rw kind (left_with c.args.tables c.args.table c.args.closed _ (c.into_ignite.ensures ∙ c.from_parts.ensures));
      kept_sound = rw kind tt;
      kept_none_abandoned = rw kind tt;
      kept_goes_on = rw kind tt;
      shutdown = rw kind (c.has_failed-failed.ensures.failed c.if-failed.true);
      tripped = λ known. tt;
      kept_tripped = λ known. rw kind (tripped_with c.args.tables c.args.table c.args.closed.handle _ _ (c.into_ignite.ensures ∙ c.from_parts.ensures) known);
      lit = rw kind tt;
    }

pub returns-then-over : goal.returns-then-over
returns-then-over g c = record {
  ok = left_with c.args.tables c.args.table c.args.closed _ (c.into_ignite.ensures ∙ c.from_parts.ensures);
  over = c.is_over-over.ensures.found c.if-over.true;
  sound = c.has_failed-failed.ensures.sound c.if-failed.false;
  none_abandoned = c.has_failed-failed.ensures.none_abandoned c.if-failed.false;
  kept = tt;
  kept_sound = tt;
  kept_none_abandoned = tt;
  kept_goes_on = tt;
  shutdown = tt;
  tripped = λ known. tripped_with c.args.tables c.args.table c.args.closed.handle _ _ (c.into_ignite.ensures ∙ c.from_parts.ensures) known;
  kept_tripped = λ known. tt;
  lit = tt;
}

pub returns : goal.returns
returns g c =
    let kind = c.new-2.ensures in
    record {
      ok = tt;
      over = tt;
      sound = tt;
      none_abandoned = tt;
      kept = rw kind (left_with c.args.tables c.args.table c.args.closed _ (c.into_ignite.ensures ∙ c.from_parts.ensures));
      kept_sound = rw kind (c.has_failed-failed.ensures.sound c.if-failed.false);
      kept_none_abandoned = rw kind (c.has_failed-failed.ensures.none_abandoned c.if-failed.false);
      kept_goes_on = rw kind (c.is_over-over.ensures.goes_on c.if-over.false, c.is_over-over.ensures.trip c.if-over.false);
      shutdown = rw kind tt;
      tripped = λ known. tt;
      kept_tripped = λ known. rw kind (tripped_with c.args.tables c.args.table c.args.closed.handle _ _ (c.into_ignite.ensures ∙ c.from_parts.ensures) known);
      lit = rw kind tt;
    }
