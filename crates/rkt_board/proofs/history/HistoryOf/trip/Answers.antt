use Rattle.rkt_board.proofs.Core.{admits_before, one_trip, tripped_word}
use Rattle.rkt_board.proofs.history.HistoryOf.trip.Goals as goal

pub returns-clause-once : goal.returns-clause-once
returns-clause-once g c = one_trip c.args.self.now.events

pub returns-clause-word : goal.returns-clause-word
returns-clause-word g c = tripped_word c.args.self.now.events c.find_trip.result c.find_trip.ensures

pub returns-clause-last : goal.returns-clause-last
returns-clause-last g c ordered front rest = admits_before c.args.self.now.events front rest ordered
