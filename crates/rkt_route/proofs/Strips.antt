-- A text without a front or an end, as `strip_prefix` and `strip_suffix` answer it.
use Rattle.std.proofs.Common.{◌≡◌, ℕ, ◌+◌, ◌-◌, Bool, true, false, if◌then◌else◌, List, ◌++◌, length, take, drop, refl, sym, ◌∙◌, ap, arith, Option, Some, None, MatchOption}
use Rattle.std.proofs.lemmas.List.{take-append-drop, length-append}
use Rattle.std.proofs.lemmas.Slice.Eq.{bytes_eq-Decides}
use Rattle.std.proofs.Math.Seq.{drop-append_seam, take-append_seam}
use Rattle.std.specs.Borrow.{Bor}
use Rattle.std.specs.Option.{option_copied}
use Rattle.std.specs.Str.{bytes_eq}
use Rattle.std.specs.Str.Pattern.{FindsTextPrefix, FindsTextSuffix, StripsPrefix, StripsSuffix}
use Rattle.rkt_route.specs.Segment.{without_front, without_end}

pub stripped-front : (front text : List ℕ) (r : Option (Bor (List ℕ)))
    → MatchOption r (FindsTextPrefix front text None) (λ x. StripsPrefix (FindsTextPrefix front) text x.now) → option_copied r ≡ without_front front text
stripped-front front text None lacks = by_test (bytes_eq (take (length front) text) front) refl
  where
    by_test : (t : Bool) → bytes_eq (take (length front) text) front ≡ t → None ≡ (if t then Some (drop (length front) text) else None)
    by_test false is = refl
    by_test true is =
        let same : take (length front) text ≡ front = (bytes_eq-Decides (take (length front) text) front).0 is in
        absurd (lacks (drop (length front) text) (sym (take-append-drop (length front) text) ∙ ap (λ (f : List ℕ). f ++ drop (length front) text) same))
stripped-front front text (Some x) (n, found, is, _) =
    let same : take (length front) text ≡ front = ap (take (length front)) found.1 ∙ take-append_seam front (drop n text) in
    rw ((bytes_eq-Decides (take (length front) text) front).1 same) (ap (λ (rest : List ℕ). Some rest) (is ∙ ap (λ (k : ℕ). drop k text) found.0))

pub stripped-end : (end text : List ℕ) (r : Option (Bor (List ℕ)))
    → MatchOption r (FindsTextSuffix end text None) (λ x. StripsSuffix (FindsTextSuffix end) text x.now) → option_copied r ≡ without_end end text
stripped-end end text None lacks = by_test (bytes_eq (drop (length text - length end) text) end) refl
  where
    by_test : (t : Bool) → bytes_eq (drop (length text - length end) text) end ≡ t → None ≡ (if t then Some (take (length text - length end) text) else None)
    by_test false is = refl
    by_test true is =
        let same : drop (length text - length end) text ≡ end = (bytes_eq-Decides (drop (length text - length end) text) end).0 is in
        absurd (lacks (take (length text - length end) text) (sym (take-append-drop (length text - length end) text) ∙ ap (λ (e : List ℕ). take (length text - length end) text ++ e) same))
stripped-end end text (Some x) (n, found, is, _) =
    let front : List ℕ = take (length text - n) text in
    let long : length text ≡ length front + length end = ap length found.1 ∙ length-append front end in
    let place : length text - length end ≡ length front = omega (arith, long) in
    let same : drop (length text - length end) text ≡ end = ap (λ (k : ℕ). drop k text) place ∙ ap (drop (length front)) found.1 ∙ drop-append_seam front end in
    rw ((bytes_eq-Decides (drop (length text - length end) text) end).1 same) (ap (λ (rest : List ℕ). Some rest) (is ∙ ap (λ (k : ℕ). take (length text - k) text) found.0))
