use Rattle.std.proofs.Common.{arith, refl}
use Rattle.std.proofs.lemmas.Result.{IfErr-weaker, IfOk-weaker}
use Rattle.rkt_ignition.specs.declared.error.IgniteError.{IgniteError}
use Rattle.rkt_serve.specs.Kept.{IfUnlit}
use Rattle.rkt_serve.specs.declared.error.ErrorKindOf.{ErrorKindOf}
use Rattle.rkt_serve.specs.declared.error.ErrorKindOf.TheVariants.{Ignition, Shutdown, NoMemory}
use Rattle.rkt_serve.proofs.Lifting.{lifted_as}
use Rattle.rkt_serve.proofs.Lighting.{if_kept}
use Rattle.rkt_serve.proofs.launch.RocketBuildLaunch.launch.Goals as goal

-- what is refused for nothing is never refused
none_refused : {M X Q : Type 0} (P : IgniteError → Type 0) (error : ErrorKindOf M X Q) → IfUnlit error (λ fault. ⊥) → IfUnlit error P
none_refused P (NoMemory kept) none = tt
none_refused P (Shutdown launched) none = tt
none_refused P (Ignition fault listener clock) none = absurd none

-- as the rocket says that has ignited
pub returns-in-Ok : goal.returns-in-Ok
returns-in-Ok g c =
    let known = c.launch.ensures in
    record {
      tables = IfOk-weaker c.launch.result _ _ (λ l. lifted_as _ _ l.history.events l.rocket (λ calls left lifts. (c.in-Ok.rocket, c.in-Ok.ensures.ignited, lifts))) known.tables;
      handle = IfOk-weaker c.launch.result _ _ (λ l back. (c.in-Ok.rocket.handle, c.in-Ok.ensures.fresh, back)) known.handle;
      ordered = known.ordered;
      caused = known.caused;
      closed = known.closed;
      ended = known.ended;
      sound = known.sound;
      none_abandoned = known.none_abandoned;
      requests = known.requests;
      settled = known.settled;
      offers = known.offers;
      word = known.word;
      still = IfOk-weaker c.launch.result _ _ (λ l still some. absurd (omega (arith, some))) known.still;
      tripped = known.tripped;
      trips = IfOk-weaker c.launch.result _ _ (λ l trips some. absurd (omega (arith, some))) known.trips;
      ends = known.ends;
      entries = known.entries;
      moments = known.moments;
      callers = known.callers;
      window = known.window;
      kept_tables = IfErr-weaker c.launch.result _ _ (if_kept _ _ (λ l. lifted_as _ _ l.history.events l.rocket (λ calls left lifts. (c.in-Ok.rocket, c.in-Ok.ensures.ignited, lifts)))) known.kept_tables;
      kept_handle = IfErr-weaker c.launch.result _ _ (if_kept _ _ (λ l back. (c.in-Ok.rocket.handle, c.in-Ok.ensures.fresh, back))) known.kept_handle;
      kept_legal = known.kept_legal;
      kept_sound = known.kept_sound;
      kept_none_abandoned = known.kept_none_abandoned;
      kept_settled = known.kept_settled;
      kept_goes_on = known.kept_goes_on;
      kept_word = known.kept_word;
      kept_still = IfErr-weaker c.launch.result _ _ (if_kept _ _ (λ l still some. absurd (omega (arith, some)))) known.kept_still;
      kept_tripped = known.kept_tripped;
      kept_trips = IfErr-weaker c.launch.result _ _ (if_kept _ _ (λ l trips some. absurd (omega (arith, some)))) known.kept_trips;
      kept_window = known.kept_window;
      refused = IfErr-weaker c.launch.result _ _ (none_refused _) known.refused;
      shutdown = known.shutdown;
      outside = known.outside;
      complete = λ valid never. known.complete tt never;
    }

pub returns-in-Err-Refused : goal.returns-in-Err-Refused
returns-in-Err-Refused g c =
    let kind = c.new.ensures in
    record {
      tables = tt;
      handle = tt;
      ordered = tt;
      caused = tt;
      closed = tt;
      ended = tt;
      sound = tt;
      none_abandoned = tt;
      requests = tt;
      settled = tt;
      offers = tt;
      word = tt;
      still = tt;
      tripped = tt;
      trips = tt;
      ends = tt;
      entries = tt;
      moments = tt;
      callers = tt;
      window = tt;
      kept_tables = rw kind tt;
      kept_handle = rw kind tt;
      kept_legal = rw kind tt;
      kept_sound = rw kind tt;
      kept_none_abandoned = rw kind tt;
      kept_settled = rw kind tt;
      kept_goes_on = rw kind tt;
      kept_word = rw kind tt;
      kept_still = rw kind tt;
      kept_tripped = rw kind tt;
      kept_trips = rw kind tt;
      kept_window = rw kind tt;
      refused = rw (kind, c.in-Err-Refused.field-0-is) (rw (c.in-Err-Refused.is, c.in-Err-Refused.field-0-is) at c.ignite.ensures.refused);
      shutdown = rw kind tt;
      outside = rw kind (refl, refl);
      complete = λ valid never_faults. let never = c.ignite.ensures.complete valid in absurd (rw (c.in-Err-Refused.is, c.in-Err-Refused.field-0-is) at never);
    }

pub returns-in-Err-NoMemory : goal.returns-in-Err-NoMemory
returns-in-Err-NoMemory g c =
    let kind = c.new-in-Err-NoMemory.ensures in
    record {
      tables = tt;
      handle = tt;
      ordered = tt;
      caused = tt;
      closed = tt;
      ended = tt;
      sound = tt;
      none_abandoned = tt;
      requests = tt;
      settled = tt;
      offers = tt;
      word = tt;
      still = tt;
      tripped = tt;
      trips = tt;
      ends = tt;
      entries = tt;
      moments = tt;
      callers = tt;
      window = tt;
      kept_tables = rw kind tt;
      kept_handle = rw kind tt;
      kept_legal = rw kind tt;
      kept_sound = rw kind tt;
      kept_none_abandoned = rw kind tt;
      kept_settled = rw kind tt;
      kept_goes_on = rw kind tt;
      kept_word = rw kind tt;
      kept_still = rw kind tt;
      kept_tripped = rw kind tt;
      kept_trips = rw kind tt;
      kept_window = rw kind tt;
      refused = rw kind tt;
      shutdown = rw kind tt;
      outside = rw kind tt;
      complete = λ valid never_faults. rw kind (tt, tt);
    }
