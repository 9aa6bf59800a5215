use Rattle.std.proofs.Common.{◌≡◌, ap, map, subst}
use Rattle.std.specs.Prelude.{IfOk}
use Rattle.rkt_fairing.specs.Below.{catcher_below}
use Rattle.rkt_fairing.proofs.below.catchers_at.Goals as goal

pub returns-clause-ok : goal.returns-clause-ok
returns-clause-ok g c = subst (λ path. c.in_ok-catchers_below.field-0.items ≡ map (catcher_below path) c.args.catchers.items) (ap (λ base. base.path) c.in_ok-base.ensures.spelled) c.in_ok-catchers_below.ensures
