use Rattle.std.proofs.Common.{◌≡◌, ◌==◌, ◌++◌, ◌∷◌, [], length, ap, ◌∙◌, sym, true, false, List, ℕ, string_bytes}
use Rattle.rkt_uri.specs.Origin.{led, pieces}
use Rattle.rkt_uri.proofs.Joins.{led_none, led_some, led_empty}
use Rattle.rkt_uri.proofs.origin.normal_path.Goals as goal
use Rattle.rkt_uri.proofs.origin.normal_path.Goals.{then-is_empty+in_ok-push_str, else-is_empty}

pub returns : goal.returns
returns c = elim c.if-is_empty.branch [
  | then-is_empty+in_ok-push_str w ↦
      let none : (length (string_bytes c.in_ok-text.text) == 0) ≡ true = ap (λ (text : List ℕ). length text == 0) (sym c.as_str.ensures.value) ∙ sym c.is_empty.ensures ∙ w.if-is_empty.true in
      let empty : (length (led 47 (pieces 47 c.args.path.now)) == 0) ≡ true = sym (ap (λ (text : List ℕ). length text == 0) c.in_ok-text.ensures) ∙ none in
      ap string_bytes w.text-is ∙ w.in_ok-push_str.ensures.bytes
      ∙ ap (λ (text : List ℕ). text ++ 47 ∷ []) (c.in_ok-text.ensures ∙ led_empty 47 (pieces 47 c.args.path.now) empty)
      ∙ ap (λ (text : List ℕ). 47 ∷ text) (sym (led_none 47 (pieces 47 c.args.path.now) empty))
  | else-is_empty w ↦
      let some : (length (string_bytes c.in_ok-text.text) == 0) ≡ false = ap (λ (text : List ℕ). length text == 0) (sym c.as_str.ensures.value) ∙ sym c.is_empty.ensures ∙ w.if-is_empty.false in
      ap string_bytes w.text-is ∙ c.in_ok-text.ensures
      ∙ led_some 47 (pieces 47 c.args.path.now) (sym (ap (λ (text : List ℕ). length text == 0) c.in_ok-text.ensures) ∙ some)
]
