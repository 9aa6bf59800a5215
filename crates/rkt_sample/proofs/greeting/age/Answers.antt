use Rattle.std.proofs.Common.{slice_get}
use Rattle.rkt_request.specs.Seen.{routed}
use Rattle.rkt_sample.proofs.Ages.{no_age, some_age}
use Rattle.rkt_sample.proofs.greeting.age.Goals as goal

pub returns-in-Some-Ok : goal.returns-in-Some-Ok
returns-in-Some-Ok g c = some_age (slice_get (routed c.args.request.now) 1) c.in-Some-Ok.age (rw c.in-Some-Ok.field-0-is at c.in-Some-Ok.ensures)

pub returns-in-Some-Err-Refused : goal.returns-in-Some-Err-Refused
returns-in-Some-Err-Refused g c = no_age (slice_get (routed c.args.request.now) 1) c.in-Some-Err-Refused.field-0-0-0 (rw (c.in-Some-Err-Refused.field-0-is, c.in-Some-Err-Refused.field-0-0-is) at c.in-Some-Err-Refused.ensures)
