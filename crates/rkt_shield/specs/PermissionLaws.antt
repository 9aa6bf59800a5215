-- What a permission says of a feature after something was said of one.
use Rattle.std.specs.Prelude.{◌≡◌, List, [], ◌∷◌, Bool, true, false, cond, Option, Some}
use Rattle.std.proofs.Common.{refl, sym, ◌∙◌, ap}
use Rattle.std.specs.Map.{lookup}
use Rattle.std.specs.Option.{option_and_then}
use Rattle.std.specs.Cmp.{IsEquivalence}
use Rattle.indexmap.specs.IndexMap.{insert_entry}
use Rattle.rkt_shield.specs.Permission.{Rule, SaysWhatWasSaid}
use Rattle.rkt_shield.specs.declared.allow.Allow.{Allow}
use Rattle.rkt_shield.specs.declared.feature.Feature.{Feature}

abbrev Said : Type 0
Said = Option (Option (List Allow))

-- in whichever order two tests are made that cannot both pass
either_way : (here there : Bool) (new old rest : Said)
    → (here ≡ true → there ≡ true → ⊥)
    → cond there old (cond here new rest) ≡ cond here new (cond there old rest)
either_way true true new old rest never = absurd (never refl refl)
either_way true false new old rest never = refl
either_way false true new old rest never = refl
either_way false false new old rest never = refl

once : (here : Bool) (new old rest : Said) → cond here new rest ≡ cond here new (cond here old rest)
once true new old rest = refl
once false new old rest = refl

module _ (same : Feature → Feature → Bool) (laws : IsEquivalence same) where
  said_after : (rules : List Rule) (feature other : Feature) (list : Option (List Allow))
      → lookup (same other) (insert_entry same rules feature list)
      ≡ cond (same other feature) (Some list) (lookup (same other) rules)
  said_after [] feature other list = refl
  said_after (rule ∷ rules) feature other list = by_test (same feature rule.0) refl (said_after rules feature other list)
    where
      by_test : (t : Bool)
          → same feature rule.0 ≡ t
          → lookup (same other) (insert_entry same rules feature list)
          ≡ cond (same other feature) (Some list) (lookup (same other) rules)
          → lookup (same other) (cond t ((rule.0, list) ∷ rules) (rule ∷ insert_entry same rules feature list))
          ≡ cond (same other feature) (Some list) (cond (same other rule.0) (Some rule.1) (lookup (same other) rules))
      by_test true e rest =
          let alike : same other rule.0 ≡ same other feature = laws.symm other rule.0
          ∙ sym (laws.congr feature rule.0 other e)
          ∙ laws.symm feature other in
          ap (λ (t : Bool). cond t (Some list) (lookup (same other) rules)) alike
          ∙ once (same other feature) (Some list) (Some rule.1) (lookup (same other) rules)
          ∙ ap (λ (t : Bool). cond (same other feature) (Some list) (cond t (Some rule.1) (lookup (same other) rules)))
          (sym alike)
      by_test false e rest =
          ap (λ (said : Option (Option (List Allow))). cond (same other rule.0) (Some rule.1) said) rest
          ∙ either_way (same other feature) (same other rule.0) (Some list) (Some rule.1) (lookup (same other) rules)
          (λ here there.
          let found : same feature rule.0 ≡ true = laws.congr feature other rule.0 (laws.symm feature other ∙ here) ∙ there in
          cc)

  by_choice : (here : Bool) (list : Option (List Allow)) (rest : Option (Option (List Allow)))
      → option_and_then (λ allow. allow) (cond here (Some list) rest) ≡ cond here list (option_and_then (λ allow. allow) rest)
  by_choice true list rest = refl
  by_choice false list rest = refl

  pub says_what_was_said : SaysWhatWasSaid same
  says_what_was_said rules feature other list =
      ap (option_and_then (λ allow. allow)) (said_after rules feature other list)
      ∙ by_choice (same other feature) list (lookup (same other) rules)
