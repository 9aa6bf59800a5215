-- The paths and bases of the sample are of their grammars.
use Rattle.std.proofs.Common.{◌≡◌, ◌∷◌, ◌&&◌, ℕ, Bool, true, false, List, [], None, append-nil, codes, refl, sym}
use Rattle.std.specs.List.{list_all}
use Rattle.rkt_grammar.specs.Grammar.{OnlyOf}
use Rattle.rkt_route.specs.RouteUri.{SpellsMounted, mounted_at, root}
use Rattle.rkt_uri.specs.Origin.{IsOrigin, Spells, Target, is_path_byte, target_of}
use Rattle.rkt_uri.specs.declared.origin_place.Profile.{Profile}
use Rattle.rkt_uri.specs.declared.origin_place.Profile.TheVariants as profile
use Rattle.rkt_sample.specs.Mounted.{base_of, catch_base_of, path_of}
use Rattle.rkt_sample.specs.declared.catcher.SampleCatcher.{SampleCatcher}
use Rattle.rkt_sample.specs.declared.catcher.SampleCatcher.TheVariants as catcher
use Rattle.rkt_sample.specs.declared.route.SampleRoute.{SampleRoute}
use Rattle.rkt_sample.specs.declared.route.SampleRoute.TheVariants as route

both_true : (a b : Bool) → (a && b) ≡ true → (a ≡ true) × (b ≡ true)
both_true true b is = (refl, is)
both_true false b is = cc is

only_of : (test : ℕ → Bool) (text : List ℕ) → list_all test text ≡ true → OnlyOf test text
only_of test [] is = tt
only_of test (b ∷ text) is = let both = both_true (test b) (list_all test text) is in (both.0, only_of test text both.1)

-- a path alone
abbrev alone : List ℕ → Target
alone path = record { path = path; query = None }

spells : (profile : Profile) (rest : List ℕ) → list_all (is_path_byte profile) (47 ∷ rest) ≡ true → Spells profile (47 ∷ rest) (alone (47 ∷ rest))
spells profile rest only = record {
  fits = record { begins = (rest, refl); path = only_of (is_path_byte profile) (47 ∷ rest) only; query = tt };
  spelled = sym (append-nil (47 ∷ rest));
}

is_base : (rest : List ℕ) → list_all (is_path_byte profile.Request) (47 ∷ rest) ≡ true → IsOrigin profile.Request (47 ∷ rest)
is_base rest only = (alone (47 ∷ rest), spells profile.Request rest only)

mounted : (rest : List ℕ) → list_all (is_path_byte profile.Route) (47 ∷ rest) ≡ true → SpellsMounted (codes "/") (47 ∷ rest) (mounted_at root (alone (47 ∷ rest)))
mounted rest only = record {
  base_target = root;
  uri_target = alone (47 ∷ rest);
  base_spelled = spells profile.Request [] refl;
  uri_spelled = spells profile.Route rest only;
  joined = refl;
}

pub path_spelled : (route : SampleRoute) → SpellsMounted (codes "/") (path_of route) (mounted_at root (target_of (path_of route)))
path_spelled route.Hello = mounted _ refl
path_spelled route.Page = mounted _ refl
path_spelled route.HeadPage = mounted _ refl
path_spelled route.HeadGone = mounted _ refl
path_spelled route.PostForm = mounted _ refl
path_spelled route.DeleteForm = mounted _ refl
path_spelled route.Trial = mounted _ refl
path_spelled route.Tried = mounted _ refl
path_spelled route.Spoiled = mounted _ refl
path_spelled route.Flash = mounted _ refl
path_spelled route.Echo = mounted _ refl
path_spelled route.Stop = mounted _ refl
path_spelled route.Broken = mounted _ refl

pub base_spelled : (route : SampleRoute) → IsOrigin profile.Request (base_of route)
base_spelled route.Hello = is_base _ refl
base_spelled route.Page = is_base _ refl
base_spelled route.HeadPage = is_base _ refl
base_spelled route.HeadGone = is_base _ refl
base_spelled route.PostForm = is_base _ refl
base_spelled route.DeleteForm = is_base _ refl
base_spelled route.Trial = is_base _ refl
base_spelled route.Tried = is_base _ refl
base_spelled route.Spoiled = is_base _ refl
base_spelled route.Flash = is_base _ refl
base_spelled route.Echo = is_base _ refl
base_spelled route.Stop = is_base _ refl
base_spelled route.Broken = is_base _ refl

pub catch_base_spelled : (catcher : SampleCatcher) → IsOrigin profile.Request (catch_base_of catcher)
catch_base_spelled catcher.NotFound = is_base _ refl
catch_base_spelled catcher.Default = is_base _ refl
catch_base_spelled catcher.BadNotFound = is_base _ refl
catch_base_spelled catcher.BadFailed = is_base _ refl
