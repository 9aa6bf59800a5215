use Rattle.std.proofs.Common.{◌≡◌, ◌<◌, ◌++◌, ◌∷◌, [], List, ℕ, Some, None, length, string_bytes, take, slice_get, vec_len, ap, sym, ◌∙◌, arith}
use Rattle.std.proofs.lemmas.List.{map-append, take_all}
use Rattle.std.proofs.lemmas.Option.{slice_get_within}
use Rattle.rkt_param.proofs.Copies.{take-one_more, le_from_none}
use Rattle.rkt_param.proofs.from_segments.VecStringFromSegments.from_segments.Goals as goal

pub loop-segment-preserved : goal.loop-segment-preserved
loop-segment-preserved c =
    let n = vec_len c.loop-segment.texts in
    let text = c.in-Some.segment.now in
    let there : slice_get c.args.segments n ≡ Some text = rw (← c.len-in-loop-segment.ensures) (sym c.in-Some.ensures) in
    let within : n < length c.args.segments = slice_get_within c.args.segments n text there in
    rw (c.in_ok-push.ensures.items, c.in_ok-push.ensures.len) (
      map-append string_bytes c.loop-segment.texts.items (c.in_ok-from_str.field-0 ∷ [])
          ∙ ap (λ (ys : List (List ℕ)). ys ++ string_bytes c.in_ok-from_str.field-0 ∷ []) c.loop-segment.invariant.0
          ∙ ap (λ (t : List ℕ). take n c.args.segments ++ t ∷ []) c.in_ok-from_str.ensures.ok
          ∙ sym (take-one_more c.args.segments n text there),
      omega arith,
    )

pub returns : goal.returns
returns c =
    let n = vec_len c.loop-segment.texts in
    let past : slice_get c.args.segments n ≡ None = rw (← c.len-in-loop-segment.ensures) (sym c.in_default.ensures) in
    c.loop-segment.invariant.0 ∙ take_all n c.args.segments (le_from_none c.args.segments n past)
