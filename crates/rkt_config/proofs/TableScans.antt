-- A loop over the entries of a table.
use Rattle.std.proofs.Common.{◌≡◌, Bool, true, false, cond, List, [], ◌∷◌, ◌++◌, map, Some, None, sym, ap, ◌∙◌}
use Rattle.std.specs.Prelude.{find}
use Rattle.std.specs.Option.{option_or}
use Rattle.std.proofs.lemmas.List.{map-append}
use Rattle.std.proofs.lemmas.List.Folds.{find-append}

module _ {E : Type 0} (p : E → Bool) where
  -- the first that passes stands behind those of which none does
  pub found_next : (all before after : List E) (e : E) → all ≡ before ++ e ∷ after → find p before ≡ None → p e ≡ true → Some e ≡ find p all
  found_next all before after e is none passes =
      sym (ap (find p) is ∙ find-append p before (e ∷ after) ∙ ap (λ o. option_or o (find p (e ∷ after))) none ∙ ap (λ b. cond b (Some e) (find p after)) passes)

  pub none_more : {A : Type 0} (shows : A → E) (before : List A) (e : A) → find p (map shows before) ≡ None → p (shows e) ≡ false → find p (map shows (before ++ e ∷ [])) ≡ None
  none_more shows before e none fails =
      ap (find p) (map-append shows before (e ∷ [])) ∙ find-append p (map shows before) (shows e ∷ []) ∙ ap (λ o. option_or o (find p (shows e ∷ []))) none ∙ ap (λ b. cond b (Some (shows e)) None) fails
