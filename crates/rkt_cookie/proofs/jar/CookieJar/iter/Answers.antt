use Rattle.std.proofs.Common.{subst}
use Rattle.rkt_cookie.specs.Jar.{NamesAscend}
use Rattle.rkt_cookie.proofs.JarLemmas.{names_ascend}
use Rattle.rkt_cookie.proofs.jar.CookieJar.iter.Goals as goal

pub returns-clause-ascending : goal.returns-clause-ascending
returns-clause-ascending c =
    subst (λ jar. NamesAscend jar.originals) c.self.view_is
    (names_ascend c.self.inside.originals.entries c.self.invariant.0 c.values.ensures.ordered)
