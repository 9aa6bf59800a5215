-- A base and what is mounted there, in one text.
use Rattle.std.proofs.Common.{◌≡◌, ℕ, ◌==◌, ◌||◌, codes, Bool, true, false, List, [], ◌∷◌, ◌++◌, refl, sym, inl, inr, ◌∙◌, ap, append_assoc}
use Rattle.std.proofs.lemmas.Bool.{false≢true}
use Rattle.std.specs.List.{list_any}
use Rattle.rkt_grammar.specs.Grammar.{LeavesAt, OnlyOf}
use Rattle.rkt_grammar.specs.Grammar.{is_alphanumeric}
use Rattle.rkt_uri.specs.Origin.{Target, IsOrigin, IsTarget, SaysWhatItSpells, Spells, is_bracket, is_path_byte, query_text, spelling}
use Rattle.rkt_uri.specs.declared.origin_place.Profile.{Profile}
use Rattle.rkt_uri.specs.declared.origin_place.Profile.TheVariants.{Request, Route}
use Rattle.rkt_route.specs.RouteUri.{MountedUri, SpellsMounted, LeavesMountedAt, IsRebased, mounted_at, path_alone, root}

-- a test that passes goes on to pass where more passes
wider : (a b more : Bool) → (a || b || false) ≡ true → (a || b || more) ≡ true
wider true b more is = refl
wider false true more is = refl
wider false false more is = absurd (false≢true is)

route_byte : (b : ℕ) → is_path_byte Request b ≡ true → is_path_byte Route b ≡ true
route_byte b is = wider (is_alphanumeric b) (list_any (λ c. c == b) (codes "-._~%!$&'()*+,;=:@/")) (is_bracket Route b) is

route_bytes : (text : List ℕ) → OnlyOf (is_path_byte Request) text → OnlyOf (is_path_byte Route) text
route_bytes [] only = tt
route_bytes (b ∷ bs) only = (route_byte b only.0, route_bytes bs only.1)

only_append : (P : ℕ → Bool) (xs ys : List ℕ) → OnlyOf P xs → OnlyOf P ys → OnlyOf P (xs ++ ys)
only_append P [] ys front rest = rest
only_append P (x ∷ xs) ys front rest = (front.0, only_append P xs ys front.1 rest)

-- a base before what is mounted there is the origin of a route
pub spells_both : (base uri : Target) (text : List ℕ) → IsTarget Request base → IsTarget Route uri → text ≡ base.path ++ spelling uri
    → Spells Route text (record { path = base.path ++ uri.path; query = uri.query })
spells_both base uri text base_fits uri_fits is = record {
  fits = record {
    begins = (base_fits.begins.0 ++ uri.path, ap (λ (p : List ℕ). p ++ uri.path) base_fits.begins.1);
    path = only_append (is_path_byte Route) base.path uri.path (route_bytes base.path base_fits.path) uri_fits.path;
    query = uri_fits.query;
  };
  spelled = is ∙ sym (append_assoc base.path uri.path (query_text uri.query));
}

-- a text spells one origin at most
spelled_alike : SaysWhatItSpells → (profile : Profile) (text : List ℕ) (a b : Target) → Spells profile text a → Spells profile text b → a ≡ b
spelled_alike said profile text a b of_a of_b = sym (said profile text a of_a) ∙ said profile text b of_b

-- and two texts spell one URI at most
pub mounted_alike : SaysWhatItSpells → (base uri : List ℕ) (m n : MountedUri) → SpellsMounted base uri m → SpellsMounted base uri n → m ≡ n
mounted_alike said base uri m n of_m of_n =
    of_m.joined
    ∙ ap (λ (b : Target). mounted_at b of_m.uri_target) (spelled_alike said Request base of_m.base_target of_n.base_target of_m.base_spelled of_n.base_spelled)
    ∙ ap (mounted_at of_n.base_target) (spelled_alike said Route uri of_m.uri_target of_n.uri_target of_m.uri_spelled of_n.uri_spelled)
    ∙ sym of_n.joined

-- what is mounted, with its text in place of it
pub rebased : SaysWhatItSpells → (uri : MountedUri) (base text : List ℕ) (m : MountedUri) → IsTarget Route uri.unmounted → text ≡ spelling uri.unmounted
    → SpellsMounted base text m → IsRebased uri base m
rebased said uri base text m fits is s = record {
  base = s.base_target;
  spelled = s.base_spelled;
  joined = s.joined ∙ ap (mounted_at s.base_target) (spelled_alike said Route text s.uri_target uri.unmounted s.uri_spelled (record { fits = fits; spelled = is }));
}

-- and what is mounted anew is spelled by that text
pub rebased_spells : (uri : MountedUri) (base text : List ℕ) (m : MountedUri) → IsTarget Route uri.unmounted → text ≡ spelling uri.unmounted → IsRebased uri base m → SpellsMounted base text m
rebased_spells uri base text m fits is r = record {
  base_target = r.base;
  uri_target = uri.unmounted;
  base_spelled = r.spelled;
  uri_spelled = record { fits = fits; spelled = is };
  joined = r.joined;
}

-- the root is a base
pub root_spelled : Spells Request (codes "/") root
root_spelled = record { fits = record { begins = ([], refl); path = (refl, tt); query = tt }; spelled = refl }

pub leaves_below_root : (uri : List ℕ) (at : ℕ) → LeavesMountedAt (codes "/") uri at → LeavesAt (IsOrigin Route) uri at
leaves_below_root uri at leaves = elim leaves [ inl of_base ↦ absurd (of_base.outside (root, root_spelled)) | inr of_uri ↦ of_uri.1 ]

-- what is spelled is spelled without its query too
pub path_alone_fits : (profile : Profile) (target : Target) → IsTarget profile target → IsTarget profile (path_alone target)
path_alone_fits profile target fits = record { begins = fits.begins; path = fits.path; query = tt }
