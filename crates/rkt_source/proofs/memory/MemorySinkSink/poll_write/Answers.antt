use Rattle.rkt_source.proofs.MemoryLemmas.{sink_keeps}
use Rattle.rkt_source.proofs.memory.MemorySinkSink.poll_write.Goals as goal

pub returns-clause-kept : goal.returns-clause-kept
returns-clause-kept c = sink_keeps _ _ _ _ c.write.ensures.later c.write.ensures.writes
