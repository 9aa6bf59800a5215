-- Sameness of permissions is symmetric and transitive.
use Rattle.std.specs.Prelude.{◌≡◌, ℕ, List, [], ◌∷◌, Bool, true, false, cond, ◌&&◌, Option, Some, None, nat_eq}
use Rattle.std.proofs.Common.{refl, sym, subst}
use Rattle.std.specs.Map.{lookup}
use Rattle.std.specs.Ordering.{on}
use Rattle.std.specs.Cmp.{IsEquivalence, IsPartialEquivalence, partial_equiv_from_equiv}
use Rattle.std.specs.Cmp.Lexicographic.{pointwise, on_texts_equal, options_equiv, lists_equiv}
use Rattle.rkt_shield.specs.Permission.{Rule}
use Rattle.rkt_shield.specs.SameRules.{same_allow, same_list, said_same, says, says_all, same_rules}
use Rattle.rkt_shield.specs.declared.allow.Allow.{Allow}
use Rattle.rkt_shield.specs.declared.allow.Allow.TheVariants.{Any, This, Origin}
use Rattle.rkt_shield.specs.declared.feature.Feature.{Feature}

-- a list that tells each entry from all others
abbrev key : Allow → List ℕ
key Any = 0 ∷ []
key This = 1 ∷ []
key (Origin uri) = 2 ∷ uri

by_key : (a b : Allow) → on key (pointwise nat_eq) a b ≡ same_allow a b
by_key Any Any = refl
by_key Any This = refl
by_key Any (Origin uri) = refl
by_key This Any = refl
by_key This This = refl
by_key This (Origin uri) = refl
by_key (Origin uri) Any = refl
by_key (Origin uri) This = refl
by_key (Origin uri) (Origin other) = refl

pub same_allow_equiv : IsEquivalence same_allow
same_allow_equiv =
    let same : on key (pointwise nat_eq) ≡ same_allow = λ i a b. by_key a b i in
    subst IsEquivalence same (on_texts_equal key)

pub same_list_equiv : IsEquivalence same_list
same_list_equiv = options_equiv (lists_equiv same_allow_equiv)

both : (a b : Bool) → a ≡ true → b ≡ true → (a && b) ≡ true
both true b p q = q
both false b p q = p

first : (a b : Bool) → (a && b) ≡ true → a ≡ true
first true b p = refl
first false b p = p

second : (a b : Bool) → (a && b) ≡ true → b ≡ true
second true b p = p
second false b p = absurd (cc p)

flipped : (a b : Bool) → (a && b) ≡ (b && a)
flipped true true = refl
flipped true false = refl
flipped false true = refl
flipped false false = refl

module _ (same : Feature → Feature → Bool) (laws : IsEquivalence same) where
  -- who is said to say all of some rules says what one of them says, of a feature that is the same
  abbrev Found : List Rule → Feature → Option (List Allow) → Type 0
  Found c k list = (k' : Feature) × (same k k' ≡ true) × (says same c (k', list) ≡ true)

  found : (c b : List Rule) (k : Feature) (list : Option (List Allow))
      → says_all same c b ≡ true
      → lookup (same k) b ≡ Some list
      → Found c k list
  found c [] k list all is = absurd (cc is)
  found c (rule ∷ rules) k list all is =
      by_test (same k rule.0) refl is (λ rest.
      found c rules k list (second (says same c rule) (says_all same c rules) all) rest)
    where
      by_test : (t : Bool)
          → same k rule.0 ≡ t
          → cond t (Some rule.1) (lookup (same k) rules) ≡ Some list
          → (lookup (same k) rules ≡ Some list → Found c k list)
          → Found c k list
      by_test true e is rest =
          let P : Option (List Allow) → Type 0 = λ said. says same c (rule.0, said) ≡ true in
          (rule.0, e, subst P (cc is) (first (says same c rule) (says_all same c rules) all))
      by_test false e is rest = rest is

  -- what is the same as something that is said is said
  handed : (said : Option (Option (List Allow))) (a b : Option (List Allow))
      → said_same said a ≡ true
      → same_list a b ≡ true
      → said_same said b ≡ true
  handed None a b p q = p
  handed (Some said) a b p q = (partial_equiv_from_equiv same_list_equiv).trans said a b p q

  one_says : (c b : List Rule) (rule : Rule) → says same b rule ≡ true → says_all same c b ≡ true → says same c rule ≡ true
  one_says c b rule p all = by_said (lookup (same rule.0) b) refl p
    where
      by_said : (said : Option (Option (List Allow)))
          → lookup (same rule.0) b ≡ said
          → said_same said rule.1 ≡ true
          → says same c rule ≡ true
      by_said None e p = absurd (cc p)
      by_said (Some list) e p =
          let there = found c b rule.0 list all e in
          let alike : same there.0 ≡ same rule.0 = λ i other. sym (laws.congr rule.0 there.0 other there.1) i in
          let now : said_same (lookup (same rule.0) c) list ≡ true = subst (λ (test : Feature → Bool).
          said_same (lookup test c) list ≡ true) alike there.2 in
          handed (lookup (same rule.0) c) list rule.1 now p

  all_say : (c b a : List Rule) → says_all same b a ≡ true → says_all same c b ≡ true → says_all same c a ≡ true
  all_say c b [] p all = refl
  all_say c b (rule ∷ rules) p all =
      both (says same c rule) (says_all same c rules)
      (one_says c b rule (first (says same b rule) (says_all same b rules) p) all)
      (all_say c b rules (second (says same b rule) (says_all same b rules) p) all)

  pub same_rules_laws : IsPartialEquivalence (same_rules same)
  same_rules_laws = record {
    symm = λ a b. flipped (says_all same a b) (says_all same b a);
    trans = λ a b c p q.
        both (says_all same a c) (says_all same c a)
        (all_say a b c (first (says_all same b c) (says_all same c b) q) (first (says_all same a b) (says_all same b a) p))
        (all_say c b a (second (says_all same a b) (says_all same b a) p) (second (says_all same b c) (says_all same c b) q));
  }
