use Rattle.std.proofs.Common.{sym, ◌∙◌}
use Rattle.rkt_request.proofs.FirstValues.{first_value-added, first_value-added_other}
use Rattle.rkt_request.proofs.request_headers.is_first.Goals as goal

pub returns-then-not-is_named-clause-first : goal.returns-then-not-is_named-clause-first
returns-then-not-is_named-clause-first c = first_value-added_other c.args.headers.now c.args.header.now c.args.name.now (sym c.is_named.ensures ∙ c.if-not-is_named.true)

pub returns-clause-first : goal.returns-clause-first
returns-clause-first c =
    first_value-added c.args.headers.now c.args.header.now c.args.name.now (λ text. text.now) (sym c.is_named.ensures ∙ c.if-not-is_named.false) c.get_one.result c.is_none.result c.get_one.ensures c.is_none.ensures
