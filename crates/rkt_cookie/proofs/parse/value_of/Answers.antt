use Rattle.std.proofs.Common.{None, sym, lit<}
use Rattle.std.proofs.lemmas.Bool.{cond-false}
use Rattle.std.proofs.lemmas.Str.Pattern.{split_once_first}
use Rattle.rkt_cookie.proofs.ParseLemmas.{list_any_none}
use Rattle.rkt_cookie.proofs.parse.value_of.Goals as goal

pub returns-in-None : goal.returns-in-None
returns-in-None c =
    sym (cond-false _ _ _ (list_any_none _ _ (split_once_first 61 c.args.piece.now None c.in-None.ensures.cases (lit< tt))))
