use Rattle.rkt_answers.proofs.Values.{made_of, starved_of}
use Rattle.rkt_answers.proofs.outcome.from.Goals as goal

pub returns-clause-answers : goal.returns-clause-answers
returns-clause-answers g c = made_of _ c.respond_to.result c.reply.result c.respond_to.ensures.answers c.reply.ensures.answers

pub returns-clause-starves : goal.returns-clause-starves
returns-clause-starves g c = starved_of _ c.respond_to.result c.reply.result c.respond_to.ensures.starves c.reply.ensures.starves
