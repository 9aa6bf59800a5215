use Rattle.std.proofs.Common.{◌∙◌, sym}
use Rattle.std.proofs.lemmas.Result.{on_ok_weaker, on_err_weaker}
use Rattle.rkt_shield.proofs.Applied.{taken_back, all_added}
use Rattle.rkt_shield.proofs.by_name.+add_absent.Goals as goal

pub returns-then-is_err-clause-err : goal.returns-then-is_err-clause-err
returns-then-is_err-clause-err t c =
    on_err_weaker c.add_absent-result.result
    (λ same. taken_back c.args.map.now c.add_copy.new.map c.add_absent-result.new.map c.remove.new.self c.in-Some.first.now c.as_str-name.result.now
    (sym c.contains.ensures ∙ c.if-contains.false) (c.as_str-name.ensures ∙ c.name.ensures) c.in_ok-add_copy.ensures.ok same c.remove.ensures)
    c.add_absent-result.ensures.err

pub returns-else-is_err-clause-ok : goal.returns-else-is_err-clause-ok
returns-else-is_err-clause-ok t c =
    on_ok_weaker c.add_absent-result.result
    (λ after. all_added c.args.map.now c.add_copy.new.map c.add_absent-result.new.map c.in-Some.first.now c.in-Some.others.now c.args.headers.now c.as_str-name.result.now
    (sym c.contains.ensures ∙ c.if-contains.false) (c.as_str-name.ensures ∙ c.name.ensures) c.in-Some.ensures.cases.0 c.requires c.in_ok-add_copy.ensures.ok after)
    c.add_absent-result.ensures.ok
