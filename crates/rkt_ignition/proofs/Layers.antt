-- How sentries are reached layer by layer, and what those answer that are asked.
use Rattle.std.proofs.Common.{◌≡◌, ◌≤◌, ◌<◌, ◌+◌, ◌-◌, ◌∷◌, ◌++◌, ◌∙◌, ℕ, suc, zero, [], List, Bool, false, Option, None, Some, Bor, ap, ap₂, arith, drop, length, refl, sym, take, take-append-drop}
use Rattle.std.specs.List.{slice_get}
use Rattle.std.specs.Slice.{IsItemAt}
use Rattle.std.specs.Prelude.{IfSome}
use Rattle.std.proofs.lemmas.List.{take_at, drop_at}
use Rattle.std.proofs.lemmas.Option.{slice_get_past, slice_get_read}
use Rattle.rkt_http.specs.declared.key.Key.{Key}
use Rattle.rkt_route.specs.declared.route.Sentry.{Sentry}
use Rattle.rkt_ignition.specs.Sentinels.{SeenIgnited}
use Rattle.rkt_ignition.specs.Reached.{Answer, all_opened, children, firsts, layers, reached}
use Rattle.rkt_ignition.specs.declared.node.Node.{Node}

module _ (nodes : List Node) where
  pub layers_begin : (positions none : List ℕ) → none ≡ [] → positions ≡ none ++ children nodes None → layers nodes (length nodes - 0) [] positions ≡ reached nodes
  layers_begin positions none empty is =
      let all : length nodes - 0 ≡ length nodes = omega arith in
      ap (λ (n : ℕ). layers nodes n [] positions) all ∙ ap (layers nodes (length nodes) []) (is ∙ ap (λ (l : List ℕ). l ++ children nodes None) empty)

  pub layer_next : (n i from end : ℕ) (positions next all : List ℕ) → i < n → end ≡ length positions → next ≡ positions ++ all_opened nodes (firsts nodes false (take from positions) (drop from positions))
      → layers nodes (n - i) (take from positions) (drop from positions) ≡ all → layers nodes (n - (i + 1)) (take end next) (drop end next) ≡ all
  layer_next n i from end positions next all within is_end is_next so_far =
      let more : ℕ = n - (i + 1) in
      let opened : List ℕ = all_opened nodes (firsts nodes false (take from positions) (drop from positions)) in
      let one_more : suc more ≡ n - i = omega (arith, within) in
      ap₂ (layers nodes more) (ap (take end) is_next ∙ take_at positions opened end (sym is_end)) (ap (drop end) is_next ∙ drop_at positions opened end (sym is_end))
      ∙ ap (λ (before : List ℕ). layers nodes more before opened) (sym (take-append-drop from positions))
      ∙ ap (λ (k : ℕ). layers nodes k (take from positions) (drop from positions)) one_more
      ∙ so_far

  pub layers_end : (n i from : ℕ) (positions all : List ℕ) → n ≤ i → layers nodes (n - i) (take from positions) (drop from positions) ≡ all → positions ≡ all
  layers_end n i from positions all past so_far =
      let none : zero ≡ n - i = omega (arith, past) in
      sym (take-append-drop from positions) ∙ ap (λ (k : ℕ). layers nodes k (take from positions) (drop from positions)) none ∙ so_far

-- what holds of an item that was looked up holds of the one that stands there
pub item_so : {X : Type 0} (xs : List X) (at : ℕ) (P : X → Type 0) (r : Option (Bor X)) → IsItemAt xs at r → IfSome r (λ (x : Bor X). P x.now) → IfSome (slice_get xs at) P
item_so xs at P None item so = rw (slice_get_past xs at item.3) tt
item_so xs at P (Some x) item so = rw (slice_get_read xs (length xs) at x.now refl item.3.0 item.1) so

module _ {S V : Type 0} (may : S → SeenIgnited V → Bool → Type 0) (sentries : List (Sentry S)) (rocket : SeenIgnited V) where
  answer_push : (asked : List ℕ) (answers : List (Key × Bool)) (at : ℕ) (one : Key × Bool) → Answer may sentries rocket asked answers
      → IfSome (slice_get sentries at) (λ sentry. (one.0 ≡ sentry.key) × may sentry.abort rocket one.1) → Answer may sentries rocket (asked ++ at ∷ []) (answers ++ one ∷ [])
  answer_push [] [] at one so last = (last, tt)
  answer_push [] (a ∷ answers) at one so last = absurd so
  answer_push (b ∷ asked) [] at one so last = absurd so
  answer_push (b ∷ asked) (a ∷ answers) at one so last = (so.0, answer_push asked answers at one so.1 last)

  pub one_more : (asked next : List ℕ) (answers more : List (Key × Bool)) (at : ℕ) (one : Key × Bool) → next ≡ asked ++ at ∷ [] → more ≡ answers ++ one ∷ [] → Answer may sentries rocket asked answers
      → IfSome (slice_get sentries at) (λ sentry. (one.0 ≡ sentry.key) × may sentry.abort rocket one.1) → Answer may sentries rocket next more
  one_more asked next answers more at one is_next is_more so last = rw (is_next, is_more) (answer_push asked answers at one so last)
