use Rattle.std.proofs.Common.{string_bytes}
use Rattle.rkt_script.proofs.WordLemmas.{two_words}
use Rattle.rkt_script.proofs.words.front.Goals as goal

pub returns-in-len2-up-clause-parts : goal.returns-in-len2-up-clause-parts
returns-in-len2-up-clause-parts c =
    rw (c.as_str.ensures.value, c.as_str-in-len2-up.ensures.value)
    (two_words string_bytes c.args.words.now c.first-item.result c.second-item.result c.in-len2-up.len_at_least c.first-item.is c.second-item.is)
