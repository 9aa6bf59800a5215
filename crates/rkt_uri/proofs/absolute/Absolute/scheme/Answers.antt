use Rattle.std.proofs.Common.{◌∙◌, ap}
use Rattle.rkt_uri.specs.Absolute.{scheme_of}
use Rattle.rkt_uri.proofs.Absolutes.{says_scheme}
use Rattle.rkt_uri.proofs.absolute.Absolute.scheme.Goals as goal

pub returns : goal.returns
returns c = λ uri spelled. c.before_first.ensures ∙ ap scheme_of (c.as_str.ensures ∙ c.self.view_is) ∙ says_scheme _ uri spelled
