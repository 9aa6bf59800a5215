use Rattle.std.proofs.Common.{unwrap_or, ap, sym, ◌∙◌}
use Rattle.rkt_request.specs.Incoming.{root}
use Rattle.rkt_request.proofs.AskedLemmas.{root_spelled}
use Rattle.rkt_request.proofs.asked.or_root.Goals as goal

pub returns-in-Ok : goal.returns-in-Ok
returns-in-Ok c = c.in-Ok.ensures.complete root root_spelled ∙ ap (λ target. unwrap_or target root) (sym c.in-None.is)
