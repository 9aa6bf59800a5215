-- What fairings see and may change at ignition, at liftoff and at a shutdown.
use Rattle.std.specs.Prelude.{◌≡◌, ℕ, [], List, Ok, Result, ⊤}
use Rattle.std.proofs.Common.{ap}
use Rattle.std.proofs.Math.Nat.{le_refl}
use Rattle.rkt_config.specs.declared.config.Config.{Config}
use Rattle.rkt_router.specs.Router.{SeenRouter}
use Rattle.rkt_turn.specs.HandsBack.{HandsBack}
use Rattle.rkt_turn.specs.Shutdown.{Handle}
use Rattle.rkt_source.specs.declared.source.Gate.{Gate}
use Rattle.rkt_router.specs.Calling.{AnswersPoll, Calling}
use Rattle.rkt_router.specs.Callbacks.{at_once}
use Rattle.rkt_router.specs.declared.step.Step.{Step}
use Rattle.rkt_fairing.specs.Callbacks.{quiet}
use Rattle.rkt_fairing.specs.Building.{SeenBuilding}

-- H is the type of handlers, K that of catchers' handlers, N that of what sentries ask, V that of managed values, F that of
-- fairings

-- what is seen of a rocket in orbit
pub record SeenView (H K N V : Type 0) : Type 0 where
  pub config : Config
  pub managed : List (ℕ × V)
  pub router : SeenRouter H K N

-- what a callback may change at ignition: the fairing itself, and the builder
pub record IgniteAt (H K N V F : Type 0) : Type 0 where
  pub fairing : F
  pub building : SeenBuilding H K N V F

-- what a callback may change at liftoff: the fairing itself, and the wire's handle
pub record LiftoffAt (F : Type 0) : Type 0 where
  pub fairing : F
  pub shutdown : Handle

-- the laws of a callback at liftoff: the handle stays one of its wire
pub record KeepsLiftoff {H F A Task : Type 0} (calling : Calling (Unit {0}) H (LiftoffAt F) A Task) : Type 0 where
  pub done : (handed : H) (before after : LiftoffAt F) (gates : List Gate) (answer : A)
      → calling.may tt handed before gates answer after
      → HandsBack before.shutdown after.shutdown
  pub begun : (handed : H) (task : Task) (before now : LiftoffAt F) (gates : List Gate) (n : ℕ)
      → calling.begun tt handed task before now gates n
      → HandsBack before.shutdown now.shutdown

module _ {Self Handed Held Answer Task : Type 0} (C : Calling Self Handed Held Answer Task) (callback : Self)
    (handed : Handed) where
  -- a task that may be polled where no Gate is shown
  abbrev pub CanPollAlone : Task → Held → Type 0
  CanPollAlone task now = (before : Held) × (n : ℕ) × C.begun callback handed task before now [] n

  -- what such a poll gives, whatever the task was begun from
  abbrev pub PollsAlone : Task → Held → Step Answer → Task → Held → Type 0
  PollsAlone old was step new now =
      (before : Held) (n : ℕ)
      → C.begun callback handed old before was [] n
      → AnswersPoll C callback handed before [] n step new now

-- a callback that changes nothing and answers Ok
abbrev pub quiet_ok : {F H Held E Task : Type 0} → Calling F H Held (Result (Unit {0}) E) Task
quiet_ok = at_once (λ fairing handed task. ⊤) (λ fairing handed before answer after. (answer ≡ Ok tt) × (after ≡ before))

handed_back : (before after : Handle) → after ≡ before → HandsBack before after
handed_back before after same = record {
  wire = ap (λ handle. handle.wire) same;
  looked = rw (ap (λ handle. handle.looked) same) (le_refl before.looked);
  seen = λ was. ap (λ handle. handle.seen) same;
}

pub quiet_keeps_liftoff : {H F A Task : Type 0}
    → KeepsLiftoff (quiet {F = Unit {0}} {H = H} {Held = LiftoffAt F} {A = A} {Task = Task})
quiet_keeps_liftoff = record {
  done = λ handed before after gates answer is. handed_back before.shutdown after.shutdown (ap (λ at. at.shutdown) is);
  begun = λ handed task before now gates n begun. handed_back before.shutdown now.shutdown (ap (λ at. at.shutdown) begun.1);
}
