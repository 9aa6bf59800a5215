use Rattle.std.proofs.Common.{refl}
use Rattle.rkt_data.proofs.into_string.resume.Goals as goal

pub returns-in-None-clause-none : goal.returns-in-None-clause-none
returns-in-None-clause-none c = λ none. (c.new.result, refl)
