use Rattle.std.proofs.Common.{◌∙◌, ap}
use Rattle.rkt_uri.specs.Origin.{spelling}
use Rattle.rkt_uri.proofs.OriginLemmas.{spelled_back}
use Rattle.rkt_uri.proofs.origin.Origin.as_str.Goals as goal

pub returns : goal.returns
returns c = c.as_str.ensures ∙ spelled_back c.self.inside.text ∙ ap spelling c.self.view_is
