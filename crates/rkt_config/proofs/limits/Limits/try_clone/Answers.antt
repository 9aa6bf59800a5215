use Rattle.std.specs.Prelude.{string_bytes}
use Rattle.rkt_config.proofs.Entries.{clones_seen}
use Rattle.rkt_config.proofs.limits.Limits.try_clone.Goals as goal

pub returns : goal.returns
returns c =
    rw (← c.self.view_is) (clones_seen string_bytes (λ limit. limit) _ _ (λ _ _ same. same) (λ _ _ same. same) c.self.inside.limits.entries c.in_ok-clone.field-0.entries c.in_ok-clone.ensures.cases)
