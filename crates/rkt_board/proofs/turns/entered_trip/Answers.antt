use Rattle.std.proofs.Common.{◌∙◌, sym}
use Rattle.rkt_board.proofs.Core.{no_trip}
use Rattle.rkt_board.specs.Records.{events}
use Rattle.rkt_board.proofs.turns.entered_trip.Goals as goal

pub returns-else-board : goal.returns-else-board
returns-else-board g c = sym (no_trip (events c.args.board.now.log.records.items) (sym c.requires.keeps.counted.counts.tripped_is ∙ c.if-board.false))
