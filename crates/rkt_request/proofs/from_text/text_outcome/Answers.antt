use Rattle.std.proofs.Common.{rules, ◌≡◌, IfOk, string_bytes, sym, subst}
use Rattle.std.proofs.lemmas.Result.{IfOk-weaker}
use Rattle.rkt_request.specs.Guards.{ParsedAs}
use Rattle.rkt_request.proofs.from_text.text_outcome.Goals as goal

pub returns-in-Success : goal.returns-in-Success
returns-in-Success g c =
    let reads = g.P.FromText.reads in
    let text : c.as_str.result.now ≡ string_bytes c.in-Success.text = search rules in
    subst (λ outcome. IfOk c.parsed_text.result (λ made. ParsedAs reads outcome made)) (sym c.in-Success.is)
    (IfOk-weaker c.parsed_text.result _ _ (λ made h. (h.0, subst (λ t. reads t h.0) text h.1, h.2)) c.parsed_text.ensures)
