-- Cookies that are adjoined one by one.
use Rattle.std.specs.Prelude.{◌≡◌, ◌<◌, ◌+◌, ◌++◌, ◌∷◌, [], ℕ, List, fold, get_or, length, map, take}
use Rattle.std.proofs.Common.{refl, sym, ap, ◌∙◌}
use Rattle.std.proofs.lemmas.List.{take_more}
use Rattle.std.proofs.lemmas.List.Sums.{fold-append}
use Rattle.rkt_cookie.specs.Cookie.{Parts}
use Rattle.rkt_http.specs.Headers.{added}
use Rattle.rkt_message.specs.Response.{ResponseOf, with_headers}
use Rattle.rkt_dispatch.specs.Finalizing.{set_cookie, with_cookies}

map_append : {X Y : Type 0} (f : X → Y) (xs ys : List X) → map f (xs ++ ys) ≡ map f xs ++ map f ys
map_append f [] ys = refl
map_append f (x ∷ xs) ys = ap (λ zs. f x ∷ zs) (map_append f xs ys)

-- one more of them
pub adjoined_more : {S : Type 0} (response before after : ResponseOf S) (cookies : List Parts) (i : ℕ) (d : Parts) → i < length cookies → before ≡ with_cookies response (take i cookies)
    → after ≡ with_headers before (added before.headers (set_cookie (get_or cookies i d))) → after ≡ with_cookies response (take (i + 1) cookies)
adjoined_more response before after cookies i d within was is =
    is ∙ (ap (λ r. with_headers r (added r.headers (set_cookie (get_or cookies i d)))) was
    ∙ ap (with_headers response) (sym (ap (λ xs. fold added response.headers (map set_cookie xs)) (take_more cookies i d within)
    ∙ (ap (fold added response.headers) (map_append set_cookie (take i cookies) (get_or cookies i d ∷ [])) ∙ fold-append added response.headers (map set_cookie (take i cookies)) (set_cookie (get_or cookies i d) ∷ [])))))
