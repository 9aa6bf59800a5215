use Rattle.rkt_data.proofs.Drains.{Draws-over, Draws-start}
use Rattle.rkt_data.proofs.into_string.read_text.Goals as goal

pub returns-in-Text : goal.returns-in-Text
returns-in-Text g c = let read = rw c.in-Text.is at c.requires.found in
    rw c.in-Text.is record { texts = (Draws-over (Draws-start g.S.Source.meaning g.S.Source.polled c.args.gate c.args.pipe.now _ c.requires.not_probed (c.left.ensures.not_probed c.requires.not_probed)), read) }
