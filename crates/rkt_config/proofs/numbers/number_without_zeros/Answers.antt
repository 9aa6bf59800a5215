use Rattle.std.proofs.Common.{◌∙◌}
use Rattle.rkt_config.proofs.Numerals.{number_without_zeros_by_parse}
use Rattle.rkt_config.proofs.numbers.number_without_zeros.Goals as goal

pub returns : goal.returns
returns c =
    c.ok.ensures.value ∙ number_without_zeros_by_parse c.args.text.now c.parse.result c.parse.ensures.value.0 c.if-has_plus.ensures c.if-has_leading_zero.ensures
