use Rattle.rkt_data.proofs.TextLemmas.{Texts-failed}
use Rattle.rkt_data.proofs.into_string.read_bytes.Goals as goal

pub returns-in-Failed : goal.returns-in-Failed
returns-in-Failed g c =
    let draws = rw c.in-Failed.is at c.drain-count.ensures.draws in
    let drains = rw c.in-Failed.is at c.drain-count.ensures.drains in
    record { texts = Texts-failed g.S.Source.meaning g.S.Source.polled c.args.gate c.in-Failed.e c.from.result _ _ _ _ c.from.ensures draws drains }
