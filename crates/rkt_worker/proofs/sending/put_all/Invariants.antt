use Rattle.std.proofs.Common.{◌≡◌, List}
use Rattle.rkt_message.specs.Reading.{ReadsOn}
use Rattle.rkt_message.specs.declared.piece.Piece.{Piece}
use Rattle.rkt_link.specs.Link.{with_taken}
use Rattle.rkt_worker.specs.Gates.{MayStand, word_in}
use Rattle.rkt_worker.specs.Progress.{PartlySent}
use Rattle.rkt_worker.proofs.sending.put_all.Given as goal

-- the pieces that were sent so far
abbrev pub invariant-loop : goal.invariant-loop
invariant-loop g l = (goal.iterator-loop g).can_next l.iterator' × (goal.iterator-loop g).is_finite l.iterator'
    × g.G.Gates.keeps l.gates
    × g.G.Gates.leads l.initial.gates l.gates
    × MayStand (g.G.Gates.watched l.gates) l.io.stage
    × ((taken : List Piece) × PartlySent g.S.Source.meaning l.initial.pieces l.pieces taken
    × (g.K.Link.meaning l.io.io ≡ with_taken (g.K.Link.meaning l.initial.io.io) taken))
    × ReadsOn g.S.Source.meaning (word_in (g.G.Gates.watched l.gates).trip) l.initial.pieces.response.body.content l.pieces.response.body.content
