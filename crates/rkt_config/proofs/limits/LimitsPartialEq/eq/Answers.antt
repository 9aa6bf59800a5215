use Rattle.std.proofs.Common.{nat_eq, ◌&&◌, sym, ◌∙◌}
use Rattle.std.specs.Cmp.Lexicographic.{pointwise}
use Rattle.std.specs.Prelude.{string_bytes}
use Rattle.std.specs.Cmp.Derive.Mapped.{pointwise-map}
use Rattle.rkt_config.proofs.limits.LimitsPartialEq.eq.Goals as goal

pub returns : goal.returns
returns c =
    rw (← c.self.view_is, ← c.other.view_is) (c.eq.ensures ∙ sym (pointwise-map (λ e. (string_bytes e.0, e.1)) (λ a b. pointwise nat_eq a.0 b.0 && nat_eq a.1.0 b.1.0) c.self.inside.limits.entries c.other.inside.limits.entries))
