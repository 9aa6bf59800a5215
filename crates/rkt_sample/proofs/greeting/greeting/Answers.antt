use Rattle.std.proofs.Common.{◌∙◌, Some, ap, sym}
use Rattle.rkt_sample.proofs.greeting.greeting.Goals as goal

pub returns-in_ok-format-in-Some-2 : goal.returns-in_ok-format-in-Some-2
returns-in_ok-format-in-Some-2 g c = rw (sym c.in-Some.ensures, sym c.in_ok-age.ensures ∙ c.in-Some-2.is) (ap Some c.in_ok-format-in-Some-2.ensures.ok)
