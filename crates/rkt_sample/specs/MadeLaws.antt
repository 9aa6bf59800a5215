-- What whole calls of the sample's routes and catchers come to: each is done, and none fails its turn.
use Rattle.std.specs.Prelude.{◌≡◌, ◌≤◌, ℕ, List, All, Option, None, Some, Result}
use Rattle.std.specs.Option.{IfSome}
use Rattle.std.proofs.Common.{⊎_elim, ap, arith, refl}
use Rattle.rkt_source.specs.Cancel.{Cancellable}
use Rattle.rkt_data.specs.CountedSource.{Tapped}
use Rattle.rkt_http.specs.declared.status.Status.{Status}
use Rattle.rkt_message.specs.Response.{ResponseOf}
use Rattle.rkt_request.specs.Lent.{Kept}
use Rattle.rkt_router.specs.Callbacks.{Handed, Refused, Reply}
use Rattle.rkt_router.specs.Calls.{GateFits, GateRule, Made}
use Rattle.rkt_router.specs.declared.turn.Final.{Final}
use Rattle.rkt_router.specs.declared.turn.Final.TheVariants.{Done, FailedTurn, Starved}
use Rattle.rkt_source.specs.Source.{Meaning}
use Rattle.rkt_source.specs.declared.source.Gate.{Gate}
use Rattle.rkt_sample.specs.Added.{with_added}
use Rattle.rkt_sample.specs.Bodies.{IsUncut, IsUncutBody, ReadsAll, SampleBody}
use Rattle.rkt_sample.specs.Calm.{IsCalm}
use Rattle.rkt_sample.specs.CalmLaws.{keeps_open}
use Rattle.rkt_sample.specs.Catching.{answer_of, catch_calling}
use Rattle.rkt_sample.specs.Catching as catching
use Rattle.rkt_sample.specs.Replies.{left_by, reply_of}
use Rattle.rkt_sample.specs.Routing.{route_calling}
use Rattle.rkt_sample.specs.RoutingLaws.{replies_so}
use Rattle.rkt_sample.specs.declared.catcher.SampleCatcher.{SampleCatcher}
use Rattle.rkt_sample.specs.declared.route.SampleRoute.{SampleRoute}

module _ (rule : GateRule) (turns : ℕ) (some : 1 ≤ turns) where
  -- under Gates of a calm rule no read is refused of a body that is not cut off
  reads_all : {S : Type 0} (meaning : S → Meaning)
      → IsCalm rule
      → (body : SampleBody S) (gates : List Gate)
      → IsUncutBody meaning rule body → All (GateFits rule) gates → ReadsAll meaning body gates
  reads_all {S} meaning calm body gates uncut within = by_tap body.tap uncut
    where
      by_tap : (tap : Option (Tapped (Cancellable S)))
          → IfSome tap (λ t. IsUncut meaning rule t.now)
          → ReadsAll meaning (record body { tap = tap }) gates
      by_tap None uncut = record { never_faults = tt; stays_open = tt }
      by_tap (Some t) uncut =
          record { never_faults = uncut.never_faults; stays_open = keeps_open rule calm gates within t.now.stage uncut.stage }

  module _ {V C : Type 0} (R : Type 0) (before after : Kept C) where
    pub route_made : {S : Type 0} (meaning : S → Meaning) (word : ℕ) (route : SampleRoute) (handed : Handed V (SampleBody S))
        (reply : Final (Reply R (SampleBody S)))
        → IsCalm rule
        → IsUncutBody meaning rule handed.body
        → Made (route_calling meaning word) rule turns route handed before reply after
        → (reply ≡ Done (reply_of meaning route handed)) × (after ≡ left_by word route before)
    route_made meaning word route handed (Done reply) calm uncut made = (
      ap Done (replies_so meaning route handed made.gates reply
          (reads_all meaning calm handed.body made.gates uncut made.within) made.gives.0),
      made.gives.1,
    )
    route_made meaning word route handed FailedTurn calm uncut made =
        absurd (⊎_elim (λ (fault : ⊥). fault) (λ (late : turns ≤ 0). absurd (omega (arith, late, some))) made.gives.cause)
    route_made meaning word route handed Starved calm uncut made = absurd (made.ended refl)

    pub catcher_made : (catcher : SampleCatcher) (refused : Refused V) (answer : Final (Result (ResponseOf R) Status))
        → Made catch_calling rule turns catcher refused before answer after
        → (answer ≡ Done (answer_of catcher refused.status)) × (after ≡ with_added (catching.added_by catcher) before)
    catcher_made catcher refused (Done answer) made = (ap Done made.gives.0, made.gives.1)
    catcher_made catcher refused FailedTurn made =
        absurd (⊎_elim (λ (fault : ⊥). fault) (λ (late : turns ≤ 0). absurd (omega (arith, late, some))) made.gives.cause)
    catcher_made catcher refused Starved made = absurd (made.ended refl)
