use Rattle.rkt_source.proofs.MemoryLemmas.{source_keeps, source_answers, reads_counted}
use Rattle.rkt_source.proofs.memory.MemorySourceSource.poll_read.Goals as goal

pub returns-clause-polled : goal.returns-clause-polled
returns-clause-polled c = λ room. reads_counted c.args.self.now c.read.new.self c.args.buf.now c.read.new.buf c.read.result c.read.ensures.reads

pub returns-clause-kept : goal.returns-clause-kept
returns-clause-kept c = source_keeps _ _ _ _ _ _ c.read.ensures.later c.read.ensures.reads

pub returns-clause-answer : goal.returns-clause-answer
returns-clause-answer c = source_answers _ _ _ _ _ c.read.ensures.within c.read.ensures.reads
