-- What a cookie jar stands for: the cookies that came with a request, the changes since, and a floor in their log.
use Rattle.std.specs.Prelude.{◌≡◌, ℕ, List, [], ◌∷◌, ◌++◌, All, Bool, true, false, Option, Some, None, codes, is_some, drop, find, map, reverse, unwrap_or, if◌then◌else◌}
use Rattle.std.specs.Cmp.Lexicographic.{slice_cmp}
use Rattle.std.specs.List.{flat_map, list_any}
use Rattle.std.specs.List.Sorted.{IsStrictlySortedBy}
use Rattle.std.specs.Ordering.{match_ordering, nat_cmp}
use Rattle.std.specs.Str.{bytes_eq}
use Rattle.rkt_cookie.specs.declared.same_site.SameSite.{SameSite}
use Rattle.rkt_cookie.specs.declared.same_site.SameSite.TheVariants as site
use Rattle.rkt_cookie.specs.declared.change.Change.{Change}
use Rattle.rkt_cookie.specs.Cookie.{Parts, removal}

pub record JarParts : Type 0 where
  -- in ascending order of names, one of a name
  pub originals : List Parts
  pub log : List Change
  pub floor : ℕ

-- the names ascend, byte by byte, and none stands twice
abbrev pub NamesAscend : List Parts → Type 0
NamesAscend cookies = IsStrictlySortedBy (slice_cmp nat_cmp) (map (λ cookie. cookie.name) cookies)

abbrev pub is_named : List ℕ → Parts → Bool
is_named name cookie = bytes_eq name cookie.name

-- the cookie of a name
abbrev pub cookie_of : List ℕ → List Parts → Option Parts
cookie_of name cookies = find (is_named name) cookies

-- the cookies with another one: in place of that of its name, or else where its name belongs
abbrev pub with_cookie : List Parts → Parts → List Parts
with_cookie [] cookie = cookie ∷ []
with_cookie (other ∷ others) cookie =
    match_ordering (slice_cmp nat_cmp cookie.name other.name) (cookie ∷ other ∷ others) (cookie ∷ others)
    (other ∷ with_cookie others cookie)

-- a cookie with the path `/` and this SameSite, where it has none of its own
abbrev pub with_defaults : SameSite → Parts → Parts
with_defaults same_site cookie =
    record cookie { path = Some (unwrap_or cookie.path (codes "/")); same_site = Some (unwrap_or cookie.same_site same_site) }

-- the change by which a cookie is added
abbrev pub addition : Parts → Change
addition cookie = record { cookie = with_defaults site.Strict cookie; removal = false }

-- the change by which one is removed
abbrev pub removal_of : Parts → Change
removal_of cookie = record { cookie = with_defaults site.Lax cookie; removal = true }

-- the cookie of a change has the defaults of its kind: to fill them in once more changes nothing
abbrev pub HasDefaults : Change → Type 0
HasDefaults change = with_defaults (if change.removal then site.Lax else site.Strict) change.cookie ≡ change.cookie

-- the jar with further changes behind those of its log
abbrev pub HasFurther : JarParts → JarParts → Type 0
HasFurther old new = (further : List Change) × All HasDefaults further × (new ≡ record old { log = old.log ++ further })

-- the changes at or above the floor
abbrev pub pending_changes : JarParts → List Change
pending_changes jar = drop jar.floor jar.log

-- the last change of a name
abbrev pub last_change : List ℕ → List Change → Option Change
last_change name changes = find (λ change. is_named name change.cookie) (reverse changes)

-- what a change leaves of a name, and the original where there is no change
abbrev pub left_by : Option Change → Option Parts → Option Parts
left_by (Some change) original = if change.removal then None else Some change.cookie
left_by None original = original

-- the changes that are the last of their name, in the order of the log
abbrev pub last_changes : List Change → List Change
last_changes [] = []
last_changes (change ∷ changes) =
    if list_any (λ later. is_named change.cookie.name later.cookie) changes then last_changes changes
    else change ∷ last_changes changes

-- what is sent of a change: an addition as it is, and a removal where there is an original to remove
abbrev pub sent : List Parts → ℕ → Change → List Parts
sent originals moment change =
    if change.removal
    then (if is_some (cookie_of change.cookie.name originals) then removal change.cookie moment ∷ [] else [])
    else change.cookie ∷ []

-- what is sent of the changes
abbrev pub delta : List Parts → List Change → ℕ → ℕ → List Parts
delta originals log floor moment = flat_map (sent originals moment) (last_changes (drop floor log))
