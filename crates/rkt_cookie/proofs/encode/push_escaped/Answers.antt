use Rattle.std.proofs.Common.{◌++◌, ap, ◌∙◌, arith, string_bytes}
use Rattle.std.proofs.lemmas.List.Elements.{All-from_get_or}
use Rattle.std.proofs.lemmas.Result.{on_ok_weaker}
use Rattle.percent_encoding.proofs.PercentLemmas.{IsByte}
use Rattle.rkt_cookie.proofs.EscapeLemmas.{escaped_is, unescaped}
use Rattle.rkt_cookie.proofs.encode.push_escaped.Goals as goal

pub returns-clause-added : goal.returns-clause-added
returns-clause-added c =
    on_ok_weaker c.append_to.result
    (λ e. e ∙ ap (λ t. string_bytes c.args.text.now ++ t) (c.utf8_percent_encode.ensures.text ∙ escaped_is _))
    c.append_to.ensures.ok

pub returns-clause-undone : goal.returns-clause-undone
returns-clause-undone c =
    unescaped c.args.part.now (All-from_get_or IsByte c.args.part.now 0 (λ i within. omega (arith, c.type_inv.part i)))
