use Rattle.rkt_cookie.specs.Reading.{Reads}
use Rattle.rkt_http.proofs.ReadingLemmas.{ReadAs-accepted}
use Rattle.rkt_request.proofs.asked.read_cookie.Goals as goal

pub returns : goal.returns
returns c = ReadAs-accepted Reads c.args.piece.now _ _ c.accepted.ensures.value c.accepted.ensures.refused c.accepted.ensures.no_memory c.parse_encoded.ensures.accepted c.parse_encoded.ensures.complete
