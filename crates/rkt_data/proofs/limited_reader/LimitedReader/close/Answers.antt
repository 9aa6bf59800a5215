use Rattle.std.proofs.Common.{true}
use Rattle.rkt_data.proofs.CountedSources.{ByGate-over, ByGate-refl}
use Rattle.rkt_data.proofs.limited_reader.LimitedReader.close.Goals as goal

pub returns-then-left-gt0-clause-by_gate : goal.returns-then-left-gt0-clause-by_gate
returns-then-left-gt0-clause-by_gate g c = ByGate-over g.S.Source.polled c.args.gate true _ _ (ByGate-refl g.S.Source.polled c.args.gate c.args.self.now.opened.tap)
