-- What has grown at a poll that may be the first or not.
use Rattle.std.proofs.Common.{◌≡◌, ◌∙◌, ap, ⊎_elim}
use Rattle.rkt_request.specs.Lent.{Grows, Lent, MayGrow}
use Rattle.rkt_request.specs.LentLaws.{grows_again, grows_same}
use Rattle.rkt_router.specs.Callbacks.{RequestAt}
use Rattle.rkt_fairing.specs.Callbacks.{RequestGrows}

pub kept_grows : {C : Type 0} (before after : Lent C) → MayGrow before after → Grows before.kept after.kept
kept_grows before after grows =
    ⊎_elim (λ (same : after ≡ before). grows_same before.kept after.kept (ap (λ lent. lent.kept) same)) (λ (more : Grows before.kept after.kept × (after.gate ≡ before.gate)). more.0) grows

-- a request that has grown, and grows again
pub request_grows_again : {V B C : Type 0} (a b c : RequestAt V B C) → RequestGrows a b → c.request.config ≡ b.request.config → c.request.managed ≡ b.request.managed → Grows b.kept c.kept → RequestGrows a c
request_grows_again a b c first config managed kept = record {
  config = config ∙ first.config;
  managed = managed ∙ first.managed;
  kept = grows_again a.kept b.kept c.kept first.kept kept;
}
