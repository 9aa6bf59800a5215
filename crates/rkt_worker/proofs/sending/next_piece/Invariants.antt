use Rattle.rkt_message.specs.Reading.{ReadsOn}
use Rattle.rkt_worker.proofs.Sendings.{Waited}
use Rattle.rkt_worker.specs.Gates.{word_in}
use Rattle.rkt_worker.proofs.sending.next_piece.Given as goal

-- it was only Pending
abbrev pub invariant-loop : goal.invariant-loop
invariant-loop g l = (goal.iterator-loop g).can_next l.iterator' × (goal.iterator-loop g).is_finite l.iterator'
    × g.G.Gates.keeps l.gates
    × g.G.Gates.leads l.initial.gates l.gates
    × Waited g.S.Source.meaning l.initial.pieces l.pieces
    × ReadsOn g.S.Source.meaning (word_in (g.G.Gates.watched l.gates).trip) l.initial.pieces.response.body.content l.pieces.response.body.content
