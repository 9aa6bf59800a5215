use Rattle.rkt_message.proofs.body.Body.poll_read.Goals as goal

pub returns-clause-answer : goal.returns-clause-answer
returns-clause-answer g c = rw (← c.self.view_is) c.poll_read.ensures.answer
