use Rattle.std.proofs.Common.{refl, Err}
use Rattle.rkt_request.proofs.from_text.parsed_text.Goals as goal

pub returns-in-Err-Refused : goal.returns-in-Err-Refused
returns-in-Err-Refused g c = (Err c.in-Err-Refused.error, rw c.in-Err-Refused.field-0-is at c.in-Err-Refused.ensures, refl)
