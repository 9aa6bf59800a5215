use Rattle.std.proofs.Common.{◌∙◌, sym}
use Rattle.rkt_board.proofs.Core.{no_trip}
use Rattle.rkt_board.specs.Records.{events}
use Rattle.rkt_worker.proofs.looking.BoardOfLentByGates.trip.Goals as goal

pub returns-else-self : goal.returns-else-self
returns-else-self g c = record { trip = sym (no_trip (events c.args.self.now.log.records.items) (sym c.requires.keeps.keeps.counted.counts.tripped_is ∙ c.if-self.false)) }
