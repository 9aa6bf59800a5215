use Rattle.std.proofs.Common.{append_assoc, rules}
use Rattle.rkt_shield.proofs.permission_text.quoted.Goals as goal

pub returns-in-Some-Some : goal.returns-in-Some-Some
returns-in-Some-Some c = rw (c.in-Some-Some.is-0, c.in-Some-Some.is-1) (simp append_assoc (search rules))

pub returns-in-Some-None : goal.returns-in-Some-None
returns-in-Some-None c = rw (c.in-Some-None.is-0, c.in-Some-None.is-1) (simp append_assoc (search rules))
