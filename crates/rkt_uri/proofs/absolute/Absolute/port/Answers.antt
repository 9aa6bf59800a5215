use Rattle.std.proofs.Common.{◌∙◌, ap}
use Rattle.rkt_uri.specs.Absolute.{port_of}
use Rattle.rkt_uri.proofs.Absolutes.{says_port}
use Rattle.rkt_uri.proofs.absolute.Absolute.port.Goals as goal

pub returns : goal.returns
returns c = λ uri spelled. c.port_of_text.ensures ∙ ap port_of (c.as_str.ensures ∙ c.self.view_is) ∙ says_port _ uri spelled
