-- What a poll of a route's call answers, whatever Gates came before.
use Rattle.std.specs.Prelude.{◌≡◌, ◌++◌, ◌∷◌, [], ℕ, List, Option, None, Some}
use Rattle.std.specs.Option.{IfSome}
use Rattle.std.proofs.Common.{⊎_elim, ap, inl, inr, subst, sym, ◌∙◌}
use Rattle.rkt_source.specs.Cancel.{Cancellable}
use Rattle.rkt_data.specs.CountedSource.{Tapped}
use Rattle.rkt_request.specs.Lent.{Kept, Lent}
use Rattle.rkt_request.specs.Seen.{Seen}
use Rattle.rkt_router.specs.Callbacks.{Handed, Reply}
use Rattle.rkt_router.specs.Calling.{AnswersPoll}
use Rattle.rkt_router.specs.Steps.{StepsTo}
use Rattle.rkt_router.specs.declared.step.Step.{Step}
use Rattle.rkt_router.specs.declared.step.Step.TheVariants.{Done, Fault, Pending, Starved}
use Rattle.rkt_source.specs.Source.{Meaning}
use Rattle.rkt_source.specs.declared.source.Gate.{Gate}
use Rattle.rkt_sample.specs.Bodies.{ReadsAll, SampleBody}
use Rattle.rkt_sample.specs.Calm.{KeepsOpen}
use Rattle.rkt_sample.specs.CalmLaws.{last_open}
use Rattle.rkt_sample.specs.Replies.{left_by}
use Rattle.rkt_sample.specs.Routing.{Holds, Replies, route_calling}
use Rattle.rkt_sample.specs.declared.route.SampleRoute.{SampleRoute}

module _ {S : Type 0} (meaning : S → Meaning) (gates : List Gate) where
  -- where no read is refused under the last of some Gates behind the others, none is under it alone
  reads_last : (gate : Gate) (b : SampleBody S) → ReadsAll meaning b (gates ++ gate ∷ []) → ReadsAll meaning b (gate ∷ [])
  reads_last gate b all = record { never_faults = all.never_faults; stays_open = by_tap b.tap all.stays_open }
    where
      by_tap : (tap : Option (Tapped (Cancellable S))) → IfSome tap (λ t. KeepsOpen (gates ++ gate ∷ []) t.now.stage) → IfSome tap (λ t. KeepsOpen (gate ∷ []) t.now.stage)
      by_tap None goes = tt
      by_tap (Some t) goes = (last_open gates gate t.now.stage goes, tt)

  replies_behind : {V R : Type 0} (gate : Gate) (route : SampleRoute) (handed : Handed V (SampleBody S)) (reply : Reply R (SampleBody S)) → Replies meaning route handed (gate ∷ []) reply → Replies meaning route handed (gates ++ gate ∷ []) reply
  replies_behind gate route handed reply is = ⊎_elim inl (λ errs. inr (errs.0, (errs.1.0, λ all. errs.1.1 (reads_last gate handed.body all)))) is

  module _ {V C R : Type 0} (word : ℕ) (route : SampleRoute) (request : Seen V) (body held : SampleBody S) (before : Kept C) (old new : Lent C) (n : ℕ) (was task : Option (SampleBody S)) where
    abbrev Steps : Step (Reply R (SampleBody S)) → Type 0
    Steps step = StepsTo step (λ reply. Replies meaning route (record { request = request; body = held }) (old.gate ∷ []) reply × (new ≡ record old { kept = left_by word route old.kept })) (new ≡ old)

    -- a route that is lent its body again replies as it does at once
    pub route_polls : (step : Step (Reply R (SampleBody S))) → was ≡ Some held → task ≡ None → Holds body was × (old.kept ≡ before) × (n ≡ 0) → Steps step
        → AnswersPoll (route_calling meaning word) route (record { request = request; body = body }) before (gates ++ old.gate ∷ []) n step task new.kept
    route_polls (Done reply) is none begun steps =
        let same : held ≡ body = subst (Holds body) is begun.0 in (
          replies_behind old.gate route (record { request = request; body = body }) reply
              (subst (λ (b : SampleBody S). Replies meaning route (record { request = request; body = b }) (old.gate ∷ []) reply) same steps.0),
          ap (λ (lent : Lent C). lent.kept) steps.1 ∙ ap (left_by word route) begun.1,
        )
    route_polls Starved is none begun steps = (subst (Holds body) (sym none) tt, ap (λ (lent : Lent C). lent.kept) steps ∙ begun.1, begun.2)
    route_polls Pending is none begun steps = absurd steps
    route_polls Fault is none begun steps = absurd steps
