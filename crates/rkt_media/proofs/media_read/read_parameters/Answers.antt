use Rattle.std.proofs.Common.{rules, true≢false, ◌∙◌, []}
use Rattle.rkt_media.proofs.MediaReads.{next_read, none_left, nothing_more, kept_one, all_kept}
use Rattle.rkt_media.proofs.media_read.read_parameters.Goals as goal

pub reading-preserved : goal.reading-preserved
reading-preserved c = (
  search rules,
  λ ps h.
      let left = c.reading.invariant.1 ps h in
      let next = next_read [] c.reading.rest.now _ _ _ nothing_more (λ none. true≢false (c.in-Some.ensures.none none)) c.in-Some.ensures.reads left.0 left.2 in
      (next.0, left.1 ∙ kept_one _ _ _ _ _ _ _ _ c.in_ok-new-in-Some.ensures c.in_ok-new-in-Some-2.ensures c.in_ok-push-in-Some.ensures.items next.1, next.2),
)

pub returns-in-None : goal.returns-in-None
returns-in-None c = λ ps h. let left = c.reading.invariant.1 ps h in
    all_kept ps _ left.0 left.1 (none_left [] c.reading.rest.now c.in-None.ensures.reads left.0 left.2).0
