use Rattle.std.proofs.Common.{rules, true≢false, ◌∙◌, ap, sym, List, unwrap_or}
use Rattle.rkt_media.specs.Media.{Parameter}
use Rattle.rkt_media.specs.Accept.{weight_in}
use Rattle.rkt_media.proofs.MediaReads.{next_read, none_left}
use Rattle.rkt_media.proofs.AcceptReads.{one_kept, all_weighed, first_weight}
use Rattle.rkt_media.proofs.accept_read.weighed_parameters.Goals as goal

pub reading-preserved : goal.reading-preserved
reading-preserved c = (
  search rules,
  λ ps more h stop.
      let left = c.reading.invariant.1 ps more h stop in
      let next = next_read more c.reading.rest.now _ _ _ stop (λ none. true≢false (c.in-Some.ensures.none none)) c.in-Some.ensures.reads left.0 left.3 in (
        next.0,
        one_kept ps left.0 next.0 _ _ _ left.1 next.1 c.in_ok-said-in-Some.ensures.kept,
        first_weight (weight_in ps) c.reading.weight _ c.or-weight.result left.0 next.0 _ left.2 next.1 c.in_ok-said-in-Some.ensures.weight c.or-weight.ensures,
        next.2,
      ),
)

pub returns-in-None : goal.returns-in-None
returns-in-None c = λ ps more h stop.
    let left = c.reading.invariant.1 ps more h stop in
    let none = none_left more c.reading.rest.now c.in-None.ensures.reads left.0 left.3 in
    (all_weighed ps left.0 _ left.1 none.0, c.unwrap_or.ensures ∙ sym (left.2 ∙ ap (λ (qs : List Parameter). unwrap_or c.reading.weight (weight_in qs)) none.0), none.1)
