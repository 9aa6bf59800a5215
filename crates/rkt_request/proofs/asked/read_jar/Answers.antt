use Rattle.std.proofs.lemmas.Grind.{flat_map-append}
use Rattle.std.proofs.lemmas.List.{append-nil}
use Rattle.rkt_request.proofs.AskedLemmas.{AddsCookies-append}
use Rattle.rkt_request.proofs.asked.read_jar.Goals as goal

pub loop-value-preserved : goal.loop-value-preserved
loop-value-preserved c =
    rw (flat_map-append, append-nil) (AddsCookies-append c.loop-value.invariant c.in_ok-add_header_cookies.ensures)
