use Rattle.std.proofs.Common.{ap, ◌∙◌}
use Rattle.rkt_http.specs.Method.{carries_payload}
use Rattle.rkt_router.proofs.Formats.{format_decided}
use Rattle.rkt_router.proofs.matches.format_matches.Goals as goal

pub returns-in-Some : goal.returns-in-Some
returns-in-Some g c =
    rw c.in-Some.is (format_decided c.args.request.now c.has_one_format.ensures c.in-Some.asked.now c.supports_payload.result _ c.format_fits.result c.format.ensures (c.supports_payload.ensures ∙ ap carries_payload c.method.ensures) c.format_fits.ensures)
