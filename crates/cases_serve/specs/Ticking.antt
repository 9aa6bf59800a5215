-- What Gates of one moment after another watch.
use Rattle.std.proofs.Common.{◌≡◌, ◌≤◌, ◌∙◌, ℕ, Option, None, option_map, arith, refl, ap}
use Rattle.rkt_worker.specs.Gates.{Watched, WatchedOn}
use Rattle.cases_serve.specs.declared.ticks.Ticks.{Ticks}

abbrev pub ticking : Ticks → Watched
ticking ticks = record { last = ticks.now; window = None; grace = 2; mercy = 3; trip = option_map (λ at. (1, at)) ticks.trip }

pub record TicksOn (old new : Ticks) : Type 0 where
  pub rises : old.now ≤ new.now
  pub trip : new.trip ≡ old.trip

pub ticks_same : (ticks : Ticks) → TicksOn ticks ticks
ticks_same ticks = record { rises = omega arith; trip = refl }

pub ticks_then : (a b c : Ticks) → TicksOn a b → TicksOn b c → TicksOn a c
ticks_then a b c one two = record { rises = omega (arith, one.rises, two.rises); trip = two.trip ∙ one.trip }

pub ticks_on : (a b : Ticks) → TicksOn a b → WatchedOn (ticking a) (ticking b)
ticks_on a b on = record {
  rises = on.rises;
  window = refl;
  grace = refl;
  mercy = refl;
  trip = λ trip found. ap (λ (t : Option ℕ). option_map (λ at. (1, at)) t) on.trip ∙ found;
}
