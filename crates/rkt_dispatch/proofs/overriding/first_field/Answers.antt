use Rattle.std.specs.Prelude.{◌==◌, length, not}
use Rattle.std.proofs.Common.{rules, tests, lit<}
use Rattle.std.proofs.lemmas.Iterator.Search.{find_from_yields_List}
use Rattle.std.proofs.lemmas.Iterator.Splits.{YieldsList-from_str_split}
use Rattle.rkt_dispatch.proofs.overriding.first_field.Goals as goal

pub returns : goal.returns
returns c =
    find_from_yields_List (λ piece. not (length piece == 0)) _ _ c.find.result c.find.ensures.ran
    (YieldsList-from_str_split 38 c.args.form.now (lit< tt) c.split.ensures.text c.split.ensures.has_more c.split.ensures.pattern) (λ x b q k. search (rules, tests))
