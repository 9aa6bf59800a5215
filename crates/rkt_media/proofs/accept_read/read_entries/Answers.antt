use Rattle.std.proofs.Common.{rules, arith, ◌≡◌, ◌∙◌, ap, sym, length}
use Rattle.rkt_grammar.specs.ByteLaws.{equal, differ}
use Rattle.rkt_media.specs.Runs.{behind_run}
use Rattle.rkt_media.specs.AcceptText.{is_gap, ListsMedia}
use Rattle.rkt_media.specs.MediaRestLaws.{along}
use Rattle.rkt_media.specs.AcceptRestLaws.{lists_along}
use Rattle.rkt_media.proofs.RunLemmas.{length-behind_run}
use Rattle.rkt_media.proofs.AcceptReads.{gap_again, first_of, none_listed, one_listed, all_listed}
use Rattle.rkt_media.proofs.accept_read.read_entries.Goals as goal

pub reading-init : goal.reading-init
reading-init c =
    let again : behind_run is_gap c.skip_gap-rest.result.now ≡ c.skip_gap-rest.result.now = ap (behind_run is_gap) c.skip_gap-rest.ensures ∙ gap_again c.args.text.now ∙ sym c.skip_gap-rest.ensures in (
      search rules,
      again,
      λ types h. (types, search rules, lists_along types c.args.text.now c.skip_gap-rest.result.now (sym c.skip_gap-rest.ensures ∙ sym again) h),
    )

pub entry_cut-requires : goal.entry_cut-requires
entry_cut-requires c =
    let types = c.requires.1 in
    let left = c.reading.invariant.2 types.0 types.1 in
    let first = first_of left.0 c.reading.rest.now c.reading.invariant.1 (differ (length c.reading.rest.now) 0 (sym c.reading-test.ensures)) left.2 in
    (first.media, first.more, first.spelled, first.stops)

pub reading-smaller : goal.reading-smaller
reading-smaller c =
    let skipped : length c.skip_gap-rest-in-reading.result.now ≡ length (behind_run is_gap c.in_ok-entry.behind.now) = ap length c.skip_gap-rest-in-reading.ensures in
    omega (arith, length-behind_run is_gap c.in_ok-entry.behind.now, c.in_ok-entry.ensures.shorter)

pub reading-preserved : goal.reading-preserved
reading-preserved c = (
  search rules,
  ap (behind_run is_gap) c.skip_gap-rest-in-reading.ensures ∙ gap_again c.in_ok-entry.behind.now ∙ sym c.skip_gap-rest-in-reading.ensures,
  λ types h.
      let left = c.reading.invariant.2 types h in
      let first = first_of left.0 c.reading.rest.now c.reading.invariant.1 (differ (length c.reading.rest.now) 0 (sym c.reading-test.ensures)) left.2 in
      let read = c.in_ok-entry.ensures.value first.media first.more first.spelled first.stops in (
        first.left,
        one_listed types left.0 _ _ first.media first.left c.in_ok-entry.entry left.1 first.is read.0 c.in_ok-push.ensures.items,
        along (ListsMedia first.left) _ _ (sym (c.skip_gap-rest-in-reading.ensures ∙ ap (behind_run is_gap) read.1)) first.goes_on,
      ),
)

pub returns : goal.returns
returns c = λ entries h.
    let left = c.reading.invariant.2 h.0 h.1 in
    all_listed h.0 left.0 _ left.1 (none_listed left.0 c.reading.rest.now (equal (length c.reading.rest.now) 0 (sym c.reading-test.ensures)) left.2) ∙ sym h.2
