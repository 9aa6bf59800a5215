-- What the header `X-Frame-Options` says.
use Rattle.std.specs.Prelude.{ℕ, List, codes}
use Rattle.rkt_shield.specs.declared.frame.Frame.{Frame}
use Rattle.rkt_shield.specs.declared.frame.Frame.TheVariants.{SameOrigin, Deny}

abbrev pub frame_text : Frame → List ℕ
frame_text SameOrigin = codes "SAMEORIGIN"
frame_text Deny = codes "DENY"
