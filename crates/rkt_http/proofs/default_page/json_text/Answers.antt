use Rattle.std.proofs.Common.{append_assoc, rules}
use Rattle.rkt_http.proofs.default_page.json_text.Goals as goal

pub returns : goal.returns
returns c = simp append_assoc (search rules)
