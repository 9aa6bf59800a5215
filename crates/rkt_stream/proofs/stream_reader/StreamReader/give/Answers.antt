use Rattle.std.proofs.Common.{◌≤◌, ◌∙◌, length, take, drop, sym, ap, arith, take_at, length-take-le}
use Rattle.rkt_stream.proofs.Joinings.{Parts-given, Parts-next}
use Rattle.rkt_stream.proofs.stream_reader.StreamReader.give.Goals as goal

pub invariant_of-self : goal.invariant_of-self
invariant_of-self g c = λ w e.
    let fits : c.give-count.result ≤ length c.self.inside.piece = omega (arith, c.give-count.ensures.count) in
    rw (c.add.ensures, c.give-count.ensures.rest) (Parts-given c.give-count.result fits (c.self.invariant w e))

pub returns-clause-bytes : goal.returns-clause-bytes
returns-clause-bytes g c =
    rw (← c.self.view_is)
    (λ w e.
    let n = c.give-count.result in
    let fits : n ≤ length c.self.inside.piece = omega (arith, c.give-count.ensures.count) in
    ap (take n) c.give-count.ensures.copied ∙ take_at (take n c.self.inside.piece) (drop n c.args.buf.now) n (length-take-le n c.self.inside.piece fits) ∙ sym (Parts-next n fits (c.self.invariant w e)))
