use Rattle.std.proofs.Common.{◌∙◌, Some, None, lit<}
use Rattle.std.proofs.lemmas.Str.Pattern.{find_char}
use Rattle.rkt_uri.proofs.Cuts.{domain-closed, domain-open}
use Rattle.rkt_uri.proofs.host.domain_of_text.Goals as goal

pub returns-in-Some : goal.returns-in-Some
returns-in-Some c =
    let found = find_char 93 c.args.text.now (Some c.in-Some.at) c.in-Some.ensures.cases (lit< tt) in
    c.range.ensures.value ∙ domain-closed c.args.text.now c.in-Some.at found.0 found.1 found.2

pub returns-in-None : goal.returns-in-None
returns-in-None c = c.before_first.ensures ∙ domain-open c.args.text.now (find_char 93 c.args.text.now None c.in-None.ensures.cases (lit< tt))
