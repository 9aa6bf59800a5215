use Rattle.std.proofs.Common.{◌<◌, ◌∙◌, ap, length, arith}
use Rattle.rkt_media.specs.Accept.{weighed}
use Rattle.rkt_media.proofs.MediaParts.{media_same}
use Rattle.rkt_media.proofs.AcceptReads.{weighed_parts, media_shorter, entry_same}
use Rattle.rkt_media.proofs.accept_read.entry_cut.Goals as goal

pub from_parts-requires : goal.from_parts-requires
from_parts-requires c =
    let m = c.requires in
    let cut = c.kind_cut.ensures m.0 m.1 m.2 in
    let read = c.in_ok-parameters.ensures m.0.parameters m.1 cut.2 m.3 in
    weighed_parts c.args.text.now m.0 m.1 _ _ _ m.2 cut.0 cut.1 read.0

pub returns-clause-value : goal.returns-clause-value
returns-clause-value c = λ m more h stop.
    let cut = c.kind_cut.ensures m more h in
    let read = c.in_ok-parameters.ensures m.parameters more cut.2 stop in
    (entry_same _ _ m (c.in_ok-media_type.ensures ∙ media_same _ _ _ (weighed m).media cut.0 cut.1 read.0) read.1, read.2)

pub returns-clause-shorter : goal.returns-clause-shorter
returns-clause-shorter c =
    let m = c.requires in
    let cut = c.kind_cut.ensures m.0 m.1 m.2 in
    let read = c.in_ok-parameters.ensures m.0.parameters m.1 cut.2 m.3 in
    let less : length m.1 < length c.args.text.now = media_shorter c.args.text.now m.0 m.1 m.2 in
    omega (arith, ap length read.2)
