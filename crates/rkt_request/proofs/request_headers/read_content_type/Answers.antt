use Rattle.rkt_media.specs.MediaText.{SpellsMedia}
use Rattle.rkt_http.proofs.ReadingLemmas.{ReadAs-accepted}
use Rattle.rkt_request.proofs.request_headers.read_content_type.Goals as goal

pub returns : goal.returns
returns c = ReadAs-accepted SpellsMedia c.args.text.now _ _ c.accepted.ensures.value c.accepted.ensures.refused c.accepted.ensures.no_memory c.parse.ensures.accepted c.parse.ensures.complete
