use Rattle.std.proofs.Common.{◌∙◌, sym}
use Rattle.std.proofs.lemmas.Result.{on_ok_weaker, on_err_weaker}
use Rattle.rkt_fairing.proofs.Shielding.{one_taken_back, rest_added}
use Rattle.rkt_fairing.proofs.shielded.+add_absent.Goals as goal

pub returns-then-is_err-clause-err : goal.returns-then-is_err-clause-err
returns-then-is_err-clause-err g t c =
    on_err_weaker c.add_absent-result.result
    (λ same. one_taken_back c.args.response.now c.adjoin_copy.new.response c.add_absent-result.new.response c.remove_header.new.self c.in-Some.first.now c.as_str-name.result.now
    (rw (← c.headers.ensures) (sym c.contains.ensures ∙ c.if-contains.false)) (c.as_str-name.ensures ∙ c.name.ensures) c.in_ok-adjoin_copy.ensures.ok same c.remove_header.ensures)
    c.add_absent-result.ensures.err

pub returns-else-is_err-clause-ok : goal.returns-else-is_err-clause-ok
returns-else-is_err-clause-ok g t c =
    on_ok_weaker c.add_absent-result.result
    (λ after. rest_added c.args.response.now c.adjoin_copy.new.response c.add_absent-result.new.response c.in-Some.first.now c.in-Some.others.now c.args.headers.now c.as_str-name.result.now
    (rw (← c.headers.ensures) (sym c.contains.ensures ∙ c.if-contains.false)) (c.as_str-name.ensures ∙ c.name.ensures) c.in-Some.ensures.cases.0 c.requires c.in_ok-adjoin_copy.ensures.ok after)
    c.add_absent-result.ensures.ok
