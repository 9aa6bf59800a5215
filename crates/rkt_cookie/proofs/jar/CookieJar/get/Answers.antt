use Rattle.std.proofs.Common.{ap, ◌∙◌}
use Rattle.rkt_cookie.specs.Jar.{cookie_of}
use Rattle.rkt_cookie.proofs.JarLemmas.{cookie_found}
use Rattle.rkt_cookie.proofs.jar.CookieJar.get.Goals as goal

pub returns : goal.returns
returns c =
    c.get.ensures.value ∙ cookie_found c.args.name.now c.self.inside.originals.entries c.self.invariant.0
    ∙ ap (λ jar. cookie_of c.args.name.now jar.originals) c.self.view_is
