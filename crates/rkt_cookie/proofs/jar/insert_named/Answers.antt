use Rattle.std.proofs.Common.{sym, ap, ◌∙◌, subst}
use Rattle.rkt_cookie.specs.JarEntries.{IsByName, cookies_in}
use Rattle.rkt_cookie.proofs.JarLemmas.{cookie_inserted, by_name_inserted}
use Rattle.rkt_cookie.proofs.jar.insert_named.Goals as goal

pub returns-clause-by_name : goal.returns-clause-by_name
returns-clause-by_name c =
    let own = c.in_ok-name.ensures.ok ∙ c.name.ensures in
    subst IsByName (sym c.in_ok-insert.ensures.entries) (by_name_inserted c.args.cookies.now.entries c.in_ok-name.name c.args.cookie own c.requires)

pub returns-clause-ok : goal.returns-clause-ok
returns-clause-ok c =
    let own = c.in_ok-name.ensures.ok ∙ c.name.ensures in
    ap cookies_in c.in_ok-insert.ensures.entries ∙ cookie_inserted c.args.cookies.now.entries c.in_ok-name.name c.args.cookie own c.requires
