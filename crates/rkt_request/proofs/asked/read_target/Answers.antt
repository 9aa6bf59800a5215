use Rattle.rkt_uri.specs.Origin.{Spells}
use Rattle.rkt_uri.specs.declared.origin_place.Profile.TheVariants.{Request as OfRequest}
use Rattle.rkt_http.proofs.ReadingLemmas.{ReadAs-accepted}
use Rattle.rkt_request.proofs.asked.read_target.Goals as goal

pub returns : goal.returns
returns c = ReadAs-accepted (Spells OfRequest) c.args.target.now _ _ c.accepted.ensures.value c.accepted.ensures.refused c.accepted.ensures.no_memory c.parse.ensures.accepted c.parse.ensures.complete
