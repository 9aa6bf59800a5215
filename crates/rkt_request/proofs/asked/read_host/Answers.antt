use Rattle.rkt_uri.specs.Host.{SpellsHost}
use Rattle.rkt_http.proofs.ReadingLemmas.{ReadAs-accepted}
use Rattle.rkt_request.proofs.asked.read_host.Goals as goal

pub returns : goal.returns
returns c = ReadAs-accepted SpellsHost c.args.text.now _ _ c.accepted.ensures.value c.accepted.ensures.refused c.accepted.ensures.no_memory c.parse.ensures.accepted c.parse.ensures.complete
