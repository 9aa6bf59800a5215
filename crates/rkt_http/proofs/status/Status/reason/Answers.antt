use Rattle.rkt_http.specs.Status.{reasons}
use Rattle.rkt_http.proofs.status.Status.reason.Goals as goal

pub returns : goal.returns
unfolding reasons
returns c = c.text_at.ensures
