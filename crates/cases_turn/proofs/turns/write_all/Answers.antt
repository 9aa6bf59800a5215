use Rattle.std.proofs.Common.{rules}
use Rattle.cases_turn.proofs.turns.write_all.Goals as goal

pub write-requires-clause-may : goal.write-requires-clause-may
write-requires-clause-may g c = (c.args.plan, c.loop-entries.invariant.2, search rules)
