use Rattle.std.proofs.Common.{◌∙◌}
use Rattle.rkt_config.proofs.Numerals.{number_by_parse}
use Rattle.rkt_config.proofs.numbers.number.Goals as goal

pub returns : goal.returns
returns c = c.ok.ensures.value ∙ number_by_parse 64 c.args.text.now c.parse.result c.parse.ensures.value.0 c.if-has_plus.ensures
