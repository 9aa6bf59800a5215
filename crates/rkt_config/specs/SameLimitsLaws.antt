-- To have the same limits is an equivalence.
use Rattle.std.specs.Cmp.{IsEquivalence, and_equiv, on_equiv}
use Rattle.std.specs.Cmp.Lexicographic.{nat_list_eq_equiv}
use Rattle.std.proofs.lemmas.Cmp.{lists_equiv, nat_eq_equiv}
use Rattle.rkt_config.specs.SameLimits.{same_limits}

pub same_limits_equiv : IsEquivalence same_limits
same_limits_equiv = lists_equiv (and_equiv (on_equiv (λ e. e.0) nat_list_eq_equiv) (on_equiv (λ e. e.1.0) nat_eq_equiv))
