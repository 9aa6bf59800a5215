use Rattle.std.proofs.Common.{add-one, arith}
use Rattle.rkt_script.proofs.Lines.{line_at, line_all}
use Rattle.rkt_script.proofs.script.first_line.Goals as goal

pub returns-then-byte-eq10-clause-lines : goal.returns-then-byte-eq10-clause-lines
returns-then-byte-eq10-clause-lines c =
    rw (c.split_at.ensures.front, c.split_at.ensures.back, add-one) (line_at c.args.script.now c.loop-at.at (omega arith) c.if-byte-eq10.true c.loop-at.invariant)

pub returns-clause-lines : goal.returns-clause-lines
returns-clause-lines c = line_all c.args.script.now c.requires (λ k lt. c.loop-at.invariant k (omega arith))
