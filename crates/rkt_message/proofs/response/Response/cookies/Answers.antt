use Rattle.std.proofs.Common.{◌≡◌, ◌++◌, ◌∷◌, [], inl, refl, sym, subst, rules, arith, append-nil}
use Rattle.std.proofs.lemmas.Grind.{common_steps}
use Rattle.rkt_message.specs.Response.{ReadsCookies}
use Rattle.rkt_message.proofs.response.Response.cookies.Goals as goal

pub loop-text-preserved-in-Continue-1 : goal.loop-text-preserved-in-Continue-1
loop-text-preserved-in-Continue-1 g c = λ rest reads.
    let next : c.loop-text.text-iterator ≡ c.in-Some.text.now ∷ c.next.new.self = first_of (search rules, grind (arith, common_steps, c.in-Some.ensures.steps)) in
    let more : ReadsCookies c.loop-text.text-iterator (c.in-Ok.cookie ∷ rest) =
    subst (λ texts. ReadsCookies texts (c.in-Ok.cookie ∷ rest)) (sym next) (inl (c.in-Ok.cookie, rest, refl, c.in-Ok.ensures.accepted, reads)) in
    let pushed : c.push.new.self.items ++ rest ≡ c.loop-text.cookies.items ++ (c.in-Ok.cookie ∷ rest) = first_of (search rules, grind (arith, common_steps)) in
    subst (ReadsCookies _) (sym pushed) (c.loop-text.invariant (c.in-Ok.cookie ∷ rest) more)

pub returns : goal.returns
returns g c =
    let stopped : c.loop-text.text-iterator ≡ [] = first_of (search rules, grind (arith, common_steps, c.in-None.ensures.steps)) in
    subst (ReadsCookies _) (append-nil c.loop-text.cookies.items) (c.loop-text.invariant [] (subst (λ texts. ReadsCookies texts []) (sym stopped) refl))
