-- A response to which the headers of a shield are added.
use Rattle.std.proofs.Common.{◌≡◌, ◌∷◌, ◌∙◌, ℕ, List, false, ap, refl}
use Rattle.std.specs.Option.{is_some}
use Rattle.rkt_http.specs.Headers.{Field, added, group_of, removed}
use Rattle.rkt_message.specs.Response.{ResponseOf, with_headers}
use Rattle.rkt_shield.specs.Shield.{IsByName, applied}
use Rattle.rkt_shield.proofs.Applied.{all_added, taken_back}
use Rattle.rkt_fairing.specs.InSlot.{shielded}

module _ {S : Type 0} where
  -- behind one that was added the others are
  pub rest_added : (before more after : ResponseOf S) (field : Field) (fields all : List Field) (name : List ℕ) → is_some (group_of before.headers name) ≡ false → name ≡ field.name → all ≡ field ∷ fields → IsByName all
      → more ≡ with_headers before (added before.headers field) → after ≡ shielded fields more → after ≡ shielded all before
  rest_added before more after field fields all name none is is_all sorted is_more is_after =
      is_after
      ∙ ap (shielded fields) is_more
      ∙ ap (with_headers before) (all_added before.headers (added before.headers field) (applied (added before.headers field) fields) field fields all name none is is_all sorted refl refl)

  -- one that was added is taken away again
  pub one_taken_back : (before more same gone : ResponseOf S) (field : Field) (name : List ℕ) → is_some (group_of before.headers name) ≡ false → name ≡ field.name
      → more ≡ with_headers before (added before.headers field) → same ≡ more → gone ≡ with_headers same (removed same.headers name) → gone ≡ before
  one_taken_back before more same gone field name none is is_more is_same is_gone =
      is_gone
      ∙ ap (λ (r : ResponseOf S). with_headers r (removed r.headers name)) (is_same ∙ is_more)
      ∙ ap (with_headers before) (taken_back before.headers (added before.headers field) (added before.headers field) (removed (added before.headers field) name) field name none is refl refl refl)
