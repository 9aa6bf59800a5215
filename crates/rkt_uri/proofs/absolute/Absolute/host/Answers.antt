use Rattle.std.proofs.Common.{◌∙◌, ap}
use Rattle.rkt_uri.specs.Absolute.{host_of}
use Rattle.rkt_uri.proofs.Absolutes.{says_host}
use Rattle.rkt_uri.proofs.absolute.Absolute.host.Goals as goal

pub returns : goal.returns
returns c = λ uri spelled. c.host_of_text.ensures ∙ ap host_of (c.as_str.ensures ∙ c.self.view_is) ∙ says_host _ uri spelled
