use Rattle.std.proofs.Common.{List, ap, ◌∙◌}
use Rattle.rkt_cookie.specs.Cookie.{Parts}
use Rattle.rkt_cookie.specs.Jar.{JarParts, cookie_of, with_cookie}
use Rattle.rkt_cookie.proofs.JarLemmas.{found_with}
use Rattle.rkt_cookie.proofs.jar.CookieJar.add_original.Goals as goal

pub returns-clause-ok : goal.returns-clause-ok
returns-clause-ok c =
    let fields = c.self.inside in
    let jar : List Parts → JarParts = λ originals. record { originals = originals; log = fields.log.items; floor = fields.floor } in
    ap jar c.in_ok-insert_named.ensures.ok
    ∙ ap (λ (old : JarParts). let new : JarParts = record old { originals = with_cookie old.originals c.args.cookie } in new) c.self.view_is

pub returns-clause-found : goal.returns-clause-found
returns-clause-found c name = ap (λ (jar : JarParts). cookie_of name jar.originals) (returns-clause-ok c) ∙ found_with name c.args.self.now.originals c.args.cookie
