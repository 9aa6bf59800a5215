-- What is an origin behind another one.
use Rattle.std.proofs.Common.{◌≡◌, ◌∷◌, ◌++◌, ℕ, [], List, Bool, None, ap, append-nil, sym}
use Rattle.rkt_grammar.specs.Grammar.{OnlyOf}
use Rattle.rkt_uri.specs.Origin.{IsOrigin, IsTarget, Target}
use Rattle.rkt_uri.specs.declared.origin_place.Profile.TheVariants.{Request}

only_append : (test : ℕ → Bool) (xs ys : List ℕ) → OnlyOf test xs → OnlyOf test ys → OnlyOf test (xs ++ ys)
only_append test [] ys front rest = rest
only_append test (x ∷ xs) ys front rest = (front.0, only_append test xs ys front.1 rest)

-- a base behind another one is a base
pub stands_behind : (base own : Target) → IsTarget Request base → IsTarget Request own → IsOrigin Request (base.path ++ own.path)
stands_behind base own one two = (
  record { path = base.path ++ own.path; query = None },
  record {
    fits = record {
      begins = (one.begins.0 ++ own.path, ap (λ (l : List ℕ). l ++ own.path) one.begins.1);
      path = only_append _ base.path own.path one.path two.path;
      query = tt;
    };
    spelled = sym (append-nil (base.path ++ own.path));
  },
)
