use Rattle.std.proofs.Common.{◌≡◌, ◌∙◌, [], sym, ap, fold, rules, arith}
use Rattle.std.proofs.lemmas.Grind.{common_steps}
use Rattle.rkt_cookie.specs.Jar.{with_cookie}
use Rattle.rkt_cookie.proofs.JarLemmas.{put_in_order}
use Rattle.rkt_cookie.proofs.jar.CookieJar.copied_originals.Goals as goal

pub returns : goal.returns
returns c =
    let kept = c.loop-cookie.invariant in
    let stopped : c.loop-cookie.cookie-iterator ≡ [] = first_of (search rules, grind (arith, common_steps, c.in-None.ensures.steps)) in
    let all = sym (ap (fold with_cookie c.loop-cookie.copy.originals) stopped) ∙ (kept.0 ∙ put_in_order [] c.args.self.now.originals c.iter-cookie-items.ensures.ascending) in
    λ i. record { originals = all i; log = kept.1 i; floor = kept.2 i }
