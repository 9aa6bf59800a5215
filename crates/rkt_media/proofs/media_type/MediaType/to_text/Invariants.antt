use Rattle.std.proofs.Common.{◌≡◌, ◌++◌, drop, flat_map}
use Rattle.rkt_media.specs.Media.{media_text, parameter_text}
use Rattle.rkt_media.proofs.media_type.MediaType.to_text.Given as goal

-- the parameters that are left complete the text
abbrev pub invariant-loop-name : goal.invariant-loop-name
invariant-loop-name l = l.text ++ flat_map parameter_text (drop l.name-index l.self.parameters) ≡ media_text l.self
