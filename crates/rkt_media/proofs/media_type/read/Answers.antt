use Rattle.std.proofs.Common.{[], sym, subst, IfOk, ◌≡◌}
use Rattle.rkt_media.specs.Media.{Media}
use Rattle.rkt_media.specs.MediaText.{IsSpelled, Exactly}
use Rattle.rkt_media.proofs.MediaParts.{media_parts, media_same}
use Rattle.rkt_media.proofs.media_type.read.Goals as goal

pub from_parts-requires : goal.from_parts-requires
from_parts-requires c =
    let m = c.requires in
    let cut = c.kind_cut.ensures m.0 [] m.1 in
    subst IsSpelled (sym (media_same _ _ _ m.0 cut.0 cut.1 (c.in_ok-parameters.ensures m.0.parameters cut.2))) (media_parts c.args.text.now m.0 (Exactly []) m.1)

pub returns : goal.returns
returns c = λ m h.
    let cut = c.kind_cut.ensures m [] h in
    let Made : Media → Type 0 = λ n. IfOk c.from_parts.result (λ r. r ≡ n) in
    subst Made (media_same _ _ _ m cut.0 cut.1 (c.in_ok-parameters.ensures m.parameters cut.2)) c.from_parts.ensures
