use Rattle.std.proofs.Common.{refl, rules, Ok}
use Rattle.rkt_answers.proofs.Values.{refused_reply}
use Rattle.rkt_answers.proofs.outcome.reply.Goals as goal

pub returns-in-Ok-clause-answers : goal.returns-in-Ok-clause-answers
returns-in-Ok-clause-answers g c = (Ok c.in-Ok.response, c.in-Ok.is, refl)

pub returns-in-Err-Refused-clause-answers : goal.returns-in-Err-Refused-clause-answers
returns-in-Err-Refused-clause-answers g c = refused_reply c.args.answer _ (search rules)
