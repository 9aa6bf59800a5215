use Rattle.std.proofs.Common.{refl}
use Rattle.rkt_http.specs.Status.{reasons}
use Rattle.rkt_http.proofs.status_law.constants_have_codes.Goals as goal

pub returns : goal.returns
unfolding reasons
returns c = refl
