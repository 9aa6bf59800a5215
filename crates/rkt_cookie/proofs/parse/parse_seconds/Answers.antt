use Rattle.std.proofs.Common.{sym, ◌∙◌}
use Rattle.rkt_cookie.proofs.ParseLemmas.{seconds_parsed, no_digits}
use Rattle.rkt_cookie.proofs.parse.parse_seconds.Goals as goal

pub returns-then-not-is_decimal : goal.returns-then-not-is_decimal
returns-then-not-is_decimal c = sym (no_digits c.args.value.now (sym c.is_decimal.ensures ∙ c.if-not-is_decimal.true))

pub returns : goal.returns
returns c =
    c.ok.ensures.value
    ∙ seconds_parsed c.args.value.now c.parse.result (sym c.is_decimal.ensures ∙ c.if-not-is_decimal.false) c.parse.ensures.value.0
