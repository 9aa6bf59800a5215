use Rattle.std.proofs.Common.{Err, refl}
use Rattle.rkt_param.proofs.from_param.OptionFromParam.from_param.Goals as goal

pub returns-in-Err-Refused : goal.returns-in-Err-Refused
returns-in-Err-Refused g c = (Err c.in-Err-Refused.field-0-0, rw c.in-Err-Refused.field-0-is at c.in-Err-Refused.ensures, refl)
