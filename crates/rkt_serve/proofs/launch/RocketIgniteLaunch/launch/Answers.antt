use Rattle.std.proofs.Common.{◌≡◌, ◌<◌, ◌∙◌, ℕ, true, Some, ap, sym, subst}
use Rattle.std.proofs.lemmas.Result.{IfErr-weaker, IfOk-weaker}
use Rattle.rkt_board.proofs.Core.{tripped_word}
use Rattle.std.specs.List.{list_any}
use Rattle.rkt_board.specs.Events.{is_trip, trip_of}
use Rattle.rkt_worker.specs.Serving.{launching, serving}
use Rattle.rkt_serve.proofs.Handles.{seen_on, seen_tripped}
use Rattle.rkt_serve.proofs.Lifting.{lifted_off}
use Rattle.rkt_serve.proofs.Launching.{back_to, if_both, left_abandoned, left_back, left_goes_on, left_legal, left_offers, left_over, left_none_abandoned, left_settled, left_shut, left_sound, left_still, left_window, left_word, never_failed, same_wire, unlit_lit, gives_lit}
use Rattle.rkt_serve.proofs.Lighting.{if_kept, if_kept_both, if_shutdown, if_wanting, lit_and}
use Rattle.rkt_serve.proofs.launch.RocketIgniteLaunch.launch.Goals as goal

pub rejoined-closed-requires : goal.rejoined-closed-requires
rejoined-closed-requires g c =
    let known = c.serve_to_close-closed.ensures in
    record { wire = same_wire c.serve_to_close-closed.result.1 c.in-Ok.begun.shutdown c.begin.new.handle c.serve_to_close-closed.result.0.handle known.lent known.handle (ap (λ h. h.wire) c.in-Ok.ensures.lends ∙ sym c.in-Ok.ensures.handle.wire) }

pub returns : goal.returns
returns g c =
    let known = c.serve_to_close-closed.ensures in
    let closed = c.serve_to_close-closed.result.0 in
    let joined = c.rejoined-closed.ensures in
    let tables = c.begin.new.tables in
    let rocket = c.args.self in
    let table = c.into_parts-tables.result.1 in
    let same = c.into_parts-tables.ensures.handle ∙ ap (λ r. r.handle) c.into_orbit.ensures in
    let above : (trip : ℕ × ℕ) → trip_of c.serve_to_close-closed.result.0.history.events ≡ Some trip → 0 < trip.0 =
    λ trip found. tripped_word c.serve_to_close-closed.result.0.history.events (Some trip) (sym found) c.serve_to_close-closed.ensures.legal.ordered in
    let still = λ (some : 0 < c.args.self.handle.seen). c.serve_to_close-closed.ensures.still (rw (c.in-Ok.ensures.handle.seen (subst (λ h. 0 < h.seen) (sym same) some), same) some) in
    let given = c.into_parts-tables.ensures.tables ∙ ap (λ r. r.tables) c.into_orbit.ensures in
    let told = c.into_parts-tables.ensures.table ∙ ap (λ r. r.table) c.into_orbit.ensures in
    let lifted = lifted_off g.A.Fairing.Lifts.LiftoffCallback.calling rocket tables table closed c.in-Ok.begun.calls c.begin.new.handle (rw (sym given, sym same) c.in-Ok.ensures.lifts) (rw (sym given) c.in-Ok.ensures.tables) told known.lifted known.handle known.looked known.still in
    let ok = IfOk-weaker c.answered.result _ _ (λ l is. left_back tables table closed joined.0 l joined.1 is) (rw joined.2 at c.answered.ensures.ok) in
    let kept = IfErr-weaker c.answered.result _ _ (if_kept _ _ (λ l is. left_back tables table closed joined.0 l joined.1 is)) (rw joined.2 at c.answered.ensures.kept) in
    let back = IfOk-weaker c.answered.result _ _ (λ l is. back_to c.args.self.handle c.into_parts-tables.result.2 c.begin.new.handle closed.handle l.rocket.handle same c.in-Ok.ensures.handle known.handle is.handle) ok in
    let kept_back = IfErr-weaker c.answered.result _ _ (if_kept _ _ (λ l is. back_to c.args.self.handle c.into_parts-tables.result.2 c.begin.new.handle closed.handle l.rocket.handle same c.in-Ok.ensures.handle known.handle is.handle)) kept in
    let first = λ (some : 0 < c.in-Ok.begun.shutdown.seen). seen_on _ c.begin.new.handle c.in-Ok.ensures.handle (subst (λ h. 0 < h.seen) c.in-Ok.ensures.lends some) in
    let shows = λ (some : 0 < joined.0.seen). seen_tripped (list_any is_trip closed.history.events) closed.handle c.serve_to_close-closed.result.1 joined.0 known.tripped (known.lent_tripped first) joined.3 some in
    let shown = subst (λ x. 0 < x.handle.seen → list_any is_trip x.history.events ≡ true) (sym joined.2) shows in
    let tripped = c.answered.ensures.tripped shown in
    let kept_tripped = c.answered.ensures.kept_tripped shown in
    let launch = launching g.A.Reason.Reason.allowed g.A.Fairing.Shuts.ShutdownCallback.calling
    (serving g.A-Fairing-Requests-RequestCallback.calling g.A.Fairing.Responses.ResponseCallback.calling g.A-Handler-Handler.calling g.A.Catch.CatchHandler.calling g.A.Source.Source.meaning g.A.Stream.Source.meaning g.L.Link.Link.meaning (g.C.Clock.meaning c.args.clock).window) in
    record {
      tripped = tripped;
      kept_tripped = kept_tripped;
      trips = if_both c.answered.result _ _ _ (λ l is hands some. is (seen_on c.args.self.handle l.rocket.handle hands some)) tripped back;
      kept_trips = if_kept_both _ _ _ (λ l is hands some. is (seen_on c.args.self.handle l.rocket.handle hands some)) c.answered.result kept_tripped kept_back;
      tables = IfOk-weaker c.answered.result _ _ lifted ok;
      kept_tables = IfErr-weaker c.answered.result _ _ (if_kept _ _ lifted) kept;
      handle = back;
      kept_handle = kept_back;
      sound = if_both c.answered.result _ _ _ (λ l is none. left_sound tables table closed l is g.L.Listener.meaning (g.L.Listener.meaning c.args.listener) known.sound none c.requires.fresh.no_fault) ok (rw joined.2 at c.answered.ensures.sound);
      kept_sound = if_wanting _ _ _ (λ l is none. left_sound tables table closed l is g.L.Listener.meaning (g.L.Listener.meaning c.args.listener) known.sound none c.requires.fresh.no_fault) c.answered.result kept (rw joined.2 at c.answered.ensures.kept_sound);
      none_abandoned = if_both c.answered.result _ _ _ (λ l is none. left_none_abandoned tables table closed l is none) ok (rw joined.2 at c.answered.ensures.none_abandoned);
      kept_none_abandoned = if_wanting _ _ _ (λ l is none. left_none_abandoned tables table closed l is none) c.answered.result kept (rw joined.2 at c.answered.ensures.kept_none_abandoned);
      shutdown = if_shutdown _ _ _ (λ l is failed. left_shut tables table closed l is g.L.Listener.meaning (g.L.Listener.meaning c.args.listener) known.sound failed) c.answered.result kept (rw joined.2 at c.answered.ensures.shutdown);
      settled = IfOk-weaker c.answered.result _ _ (λ l is. left_settled tables table closed l is g.L.Listener.meaning (g.L.Listener.meaning c.args.listener) known.settled) ok;
      kept_settled = IfErr-weaker c.answered.result _ _ (if_kept _ _ (λ l is. left_settled tables table closed l is g.L.Listener.meaning (g.L.Listener.meaning c.args.listener) known.settled)) kept;
      window = IfOk-weaker c.answered.result _ _ (λ l is. left_window tables table closed l is g.C.Clock.meaning (g.C.Clock.meaning c.args.clock) known.clock) ok;
      kept_window = IfErr-weaker c.answered.result _ _ (if_kept _ _ (λ l is. left_window tables table closed l is g.C.Clock.meaning (g.C.Clock.meaning c.args.clock) known.clock)) kept;
      word = IfOk-weaker c.answered.result _ _ (λ l is. left_word tables table closed l is above known.word) ok;
      kept_goes_on = if_wanting _ _ _ (λ l is none. left_goes_on tables table closed l is g.L.Listener.meaning known.goes_on none) c.answered.result kept (rw joined.2 at c.answered.ensures.kept_goes_on);
      kept_word = IfErr-weaker c.answered.result _ _ (if_kept _ _ (λ l is. left_word tables table closed l is above known.word)) kept;
      still = IfOk-weaker c.answered.result _ _ (λ l is. left_still tables table closed l is still) ok;
      kept_still = IfErr-weaker c.answered.result _ _ (if_kept _ _ (λ l is. left_still tables table closed l is still)) kept;
      ordered = IfOk-weaker c.answered.result _ _ (λ l is. (left_legal launch g.L.Listener.meaning tables table closed l is known.legal).ordered) ok;
      caused = IfOk-weaker c.answered.result _ _ (λ l is. (left_legal launch g.L.Listener.meaning tables table closed l is known.legal).caused) ok;
      closed = IfOk-weaker c.answered.result _ _ (λ l is. (left_legal launch g.L.Listener.meaning tables table closed l is known.legal).closed) ok;
      requests = IfOk-weaker c.answered.result _ _ (λ l is. (left_legal launch g.L.Listener.meaning tables table closed l is known.legal).all_admitted) ok;
      ends = IfOk-weaker c.answered.result _ _ (λ l is. (left_legal launch g.L.Listener.meaning tables table closed l is known.legal).once) ok;
      entries = IfOk-weaker c.answered.result _ _ (λ l is. (left_legal launch g.L.Listener.meaning tables table closed l is known.legal).entries) ok;
      moments = IfOk-weaker c.answered.result _ _ (λ l is. (left_legal launch g.L.Listener.meaning tables table closed l is known.legal).timed) ok;
      callers = IfOk-weaker c.answered.result _ _ (λ l is. (left_legal launch g.L.Listener.meaning tables table closed l is known.legal).callers) ok;
      kept_legal = IfErr-weaker c.answered.result _ _ (if_kept _ _ (λ l is. left_legal launch g.L.Listener.meaning tables table closed l is known.legal)) kept;
      ended = if_both c.answered.result _ _ _ (λ l is over. left_over tables table closed l is g.L.Listener.meaning known.ended over) ok (rw joined.2 at c.answered.ensures.over);
      offers = if_both c.answered.result _ _ _ (λ l is over. left_offers tables table closed l is g.L.Listener.meaning (g.L.Listener.meaning c.args.listener).offers known.offers over) ok (rw joined.2 at c.answered.ensures.over);
      refused = IfErr-weaker c.answered.result _ _ (λ e lit. unlit_lit _ e lit) c.answered.ensures.lit;
      outside = IfErr-weaker c.answered.result _ _ (λ e lit. gives_lit c.args.listener c.args.clock e lit) c.answered.ensures.lit;
      complete = λ valid never. lit_and _ c.answered.result c.answered.ensures.lit (if_shutdown _ _ _ (λ l is failed. left_abandoned launch tables table closed l is
          (never_failed closed.faulted (g.L.Listener.meaning c.args.listener) (g.L.Listener.meaning closed.listener) known.sound never) known.legal.caused known.legal.timed failed) c.answered.result kept (rw joined.2 at c.answered.ensures.shutdown));
    }

pub returns-in_default : goal.returns-in_default
returns-in_default g c =
    let kind = c.new.ensures in
    record {
      tables = tt;
      handle = tt;
      ordered = tt;
      caused = tt;
      closed = tt;
      ended = tt;
      sound = tt;
      none_abandoned = tt;
      requests = tt;
      settled = tt;
      offers = tt;
      word = tt;
      still = tt;
      tripped = tt;
      trips = tt;
      ends = tt;
      entries = tt;
      moments = tt;
      callers = tt;
      window = tt;
      kept_tables = rw kind tt;
      kept_handle = rw kind tt;
      kept_legal = rw kind tt;
      kept_sound = rw kind tt;
      kept_none_abandoned = rw kind tt;
      kept_settled = rw kind tt;
      kept_goes_on = rw kind tt;
      kept_word = rw kind tt;
      kept_still = rw kind tt;
      kept_tripped = rw kind tt;
      kept_trips = rw kind tt;
      kept_window = rw kind tt;
      refused = rw kind tt;
      shutdown = rw kind tt;
      outside = rw kind tt;
      complete = λ valid never. rw kind (tt, tt);
    }
