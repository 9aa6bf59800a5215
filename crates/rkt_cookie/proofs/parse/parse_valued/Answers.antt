use Rattle.std.proofs.Common.{sym, ◌∙◌}
use Rattle.rkt_cookie.proofs.ParseLemmas.{valued_other}
use Rattle.rkt_cookie.proofs.parse.parse_valued.Goals as goal

pub returns-else-is_named-5 : goal.returns-else-is_named-5
returns-else-is_named-5 c =
    sym (valued_other c.args.name.now c.args.value.now
    (sym c.is_named.ensures ∙ c.if-is_named.false)
    (sym c.is_named-else-is_named.ensures ∙ c.if-is_named-2.false)
    (sym c.is_named-else-is_named-2.ensures ∙ c.if-is_named-3.false)
    (sym c.is_named-else-is_named-3.ensures ∙ c.if-is_named-4.false)
    (sym c.is_named-else-is_named-4.ensures ∙ c.if-is_named-5.false))
