use Rattle.std.proofs.Common.{None, [], arith, max, refl}
use Rattle.rkt_message.proofs.ReadOnLemmas.{never_waited, reads_nothing}
use Rattle.rkt_message.specs.Sending.{IsSending, ReadOn}
use Rattle.rkt_message.specs.declared.stage.Stage.TheVariants as stage
use Rattle.rkt_message.proofs.pieces.Pieces.new.Goals as goal

pub invariant_of-result : goal.invariant_of-result
invariant_of-result g c =
    let kept : ReadOn g.S.Source.meaning c.args.response c.args.response = (None, reads_nothing g.S.Source.meaning None c.args.response) in
    let sending : IsSending g.S.Source.meaning stage.Head c.args.response c.args.response (max c.args.turns 1) 0 [] = record {
      read_on = kept;
      below = omega arith;
      waited = never_waited g.S.Source.meaning c.args.response.body.content;
      chunk = rw (← c.body.ensures, ← c.max_chunk_size.ensures.size) c.max_chunk_size.ensures.some;
      stands = (refl, refl);
    } in
    rw (c.of.ensures, c.max.ensures, c.new-2.ensures) sending
