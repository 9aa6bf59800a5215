use Rattle.std.proofs.Common.{rules, tests, nat_cmp, refl, ◌≡◌}
use Rattle.std.specs.Char.{to_ascii_lowercase}
use Rattle.std.proofs.lemmas.Iterator.{YieldsList-from_map}
use Rattle.std.proofs.lemmas.Iterator.Adapters.{YieldsList-from_bytes}
use Rattle.std.proofs.lemmas.Iterator.Search.{cmp_from_yields_List}
use Rattle.rkt_shield.proofs.by_name.order.Goals as goal

pub returns : goal.returns
returns c =
    cmp_from_yields_List (λ x y. y ≡ x) _ nat_cmp _ c.cmp.ensures.ran
    (YieldsList-from_map _ to_ascii_lowercase (YieldsList-from_bytes c.args.one.now (search rules)) c.map.ensures.closure (λ x r q k. search (rules, tests)))
    (λ it e. rw e (YieldsList-from_map _ to_ascii_lowercase (YieldsList-from_bytes c.args.other.now (search rules)) c.map-2.ensures.closure (λ x r q k. search (rules, tests))))
    (λ x y. refl)
