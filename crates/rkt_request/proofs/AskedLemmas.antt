-- What a head makes, one header and one piece at a time.
use Rattle.std.proofs.Common.{◌≡◌, ℕ, List, [], ◌∷◌, ◌++◌, Bool, cond, Option, map, filter, fold, refl, sym, ap, ◌∙◌, subst, append_assoc, codes}
use Rattle.std.specs.Prelude.{IsUtf8, option_to_list}
use Rattle.std.specs.Str.{is_utf8}
use Rattle.std.proofs.lemmas.List.{map-append, append-nil}
use Rattle.std.proofs.lemmas.List.Elements.{filter-append}
use Rattle.std.proofs.lemmas.List.Sums.{fold-append}
use Rattle.std.proofs.lemmas.Str.{is_utf8-from_IsUtf8, IsUtf8-from_is_utf8}
use Rattle.std.proofs.lemmas.Bool.{false_from_ne_true}
use Rattle.rkt_cookie.specs.Cookie.{Parts}
use Rattle.rkt_cookie.specs.Jar.{JarParts, with_cookie}
use Rattle.rkt_cookie.specs.Reading.{Reads}
use Rattle.rkt_http.specs.Headers.{added}
use Rattle.rkt_uri.specs.Origin.{Spells}
use Rattle.rkt_uri.specs.declared.origin_place.Profile.TheVariants.{Request as OfRequest}
use Rattle.rkt_request.specs.Incoming.{AddsCookies, Cookies, field_of, headers_of, root}
use Rattle.rkt_request.specs.Seen.{ReadAs}

abbrev is_kept : List ℕ × List ℕ → Bool
is_kept header = is_utf8 header.1

-- a header whose value is a text is added
pub headers_of-kept : (headers : List (List ℕ × List ℕ)) (header : List ℕ × List ℕ) → IsUtf8 header.1
    → headers_of (headers ++ header ∷ []) ≡ added (headers_of headers) (field_of header)
headers_of-kept headers header utf8 =
    ap (λ kept. fold added [] (map field_of kept)) (filter-append is_kept headers (header ∷ []) ∙ ap (λ t. filter is_kept headers ++ cond t (header ∷ []) []) (is_utf8-from_IsUtf8 header.1 utf8))
    ∙ ap (fold added []) (map-append field_of (filter is_kept headers) (header ∷ []))
    ∙ fold-append added [] (map field_of (filter is_kept headers)) (field_of header ∷ [])

-- one whose value is none is left out
pub headers_of-dropped : (headers : List (List ℕ × List ℕ)) (header : List ℕ × List ℕ) → ¬ IsUtf8 header.1 → headers_of (headers ++ header ∷ []) ≡ headers_of headers
headers_of-dropped headers header other =
    ap (λ kept. fold added [] (map field_of kept))
    (filter-append is_kept headers (header ∷ []) ∙ ap (λ t. filter is_kept headers ++ cond t (header ∷ []) []) (false_from_ne_true (is_utf8 header.1) (λ is. other (IsUtf8-from_is_utf8 header.1 is))) ∙ append-nil (filter is_kept headers))

Cookies-append : (xs ys : List (List ℕ)) (a b : List Parts) → Cookies xs a → Cookies ys b → Cookies (xs ++ ys) (a ++ b)
Cookies-append [] ys a b h k = let P : List Parts → Type 0 = λ c. Cookies ys (c ++ b) in subst P (sym h) k
Cookies-append (x ∷ xs) ys a b h k =
    (h.0, h.1, (h.2.0 ++ b, Cookies-append xs ys h.2.0 b h.2.1 k, ap (λ c. c ++ b) h.2.2 ∙ append_assoc (option_to_list h.0) h.2.0 b))

-- nothing is added by no pieces
pub AddsCookies-none : (jar : JarParts) → AddsCookies [] jar jar
AddsCookies-none jar = record { cookies = []; read = refl; added_are = refl }

-- what is added by some pieces, and then by others
pub AddsCookies-append : {xs ys : List (List ℕ)} {i j k : JarParts} → AddsCookies xs i j → AddsCookies ys j k → AddsCookies (xs ++ ys) i k
AddsCookies-append {xs} {ys} {i} {j} {k} h then =
    record {
      cookies = h.cookies ++ then.cookies;
      read = Cookies-append xs ys h.cookies then.cookies h.read then.read;
      added_are = then.added_are
          ∙ ap (λ (jar : JarParts). record jar { originals = fold with_cookie jar.originals then.cookies }) h.added_are
          ∙ ap (λ (cookies : List Parts). record i { originals = cookies }) (sym (fold-append with_cookie i.originals h.cookies then.cookies));
    }

-- by one piece
pub AddsCookies-one : (piece : List ℕ) (found : Option Parts) (i j : JarParts) → ReadAs Reads piece found → j ≡ record i { originals = fold with_cookie i.originals (option_to_list found) } → AddsCookies (piece ∷ []) i j
AddsCookies-one piece found i j read is =
    record { cookies = option_to_list found; read = (found, read, ([], refl, sym (append-nil (option_to_list found)))); added_are = is }

-- the text `/` spells the root
pub root_spelled : Spells OfRequest (codes "/") root
root_spelled = record { fits = record { begins = ([], refl); path = (refl, tt); query = tt }; spelled = refl }
