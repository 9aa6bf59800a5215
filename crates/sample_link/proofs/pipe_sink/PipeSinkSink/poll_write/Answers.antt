use Rattle.std.proofs.Common.{refl}
use Rattle.sample_link.specs.declared.calls.Turn.TheVariants.{Waits, Fails, Goes}
use Rattle.sample_link.proofs.pipe_sink.PipeSinkSink.poll_write.Goals as goal

pub returns-in-Waits-clause-written : goal.returns-in-Waits-clause-written
returns-in-Waits-clause-written c = (Waits, c.turn.new.self, rw (← c.self.view_is) c.in-Waits.ensures.turns, (refl, rw (← c.self.view_is) refl))

pub returns-in-Fails-clause-written : goal.returns-in-Fails-clause-written
returns-in-Fails-clause-written c = (Fails, c.turn.new.self, rw (← c.self.view_is) c.in-Fails.ensures.turns, (refl, rw (← c.self.view_is) refl))

pub returns-in-Goes-clause-written : goal.returns-in-Goes-clause-written
returns-in-Goes-clause-written c = (Goes, c.turn.new.self, rw (← c.self.view_is) c.in-Goes.ensures.turns, (c.write.result, refl, rw (← c.self.view_is) c.write.ensures.takes))
