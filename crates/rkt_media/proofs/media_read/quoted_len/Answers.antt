use Rattle.std.proofs.Common.{◌∙◌, sym, ap, get_or, drop, ◌+◌}
use Rattle.rkt_media.specs.MediaText.{behind_quoted}
use Rattle.rkt_media.proofs.RunLemmas.{drop_at, quoted_on, quoted_closes}
use Rattle.rkt_media.proofs.media_read.quoted_len.Goals as goal

pub loop-at-preserved : goal.loop-at-preserved
loop-at-preserved c = λ more h.
    quoted_on c.loop-at.escaped c.in-Some.next (get_or c.args.inside.now c.loop-at.at 0) (drop (c.loop-at.at + 1) c.args.inside.now) more (sym c.quote_after.ensures ∙ c.in-Some.is)
    (ap (behind_quoted c.loop-at.escaped) (sym (drop_at c.args.inside.now c.loop-at.at c.loop-at-test.true)) ∙ c.loop-at.invariant more h)

pub returns-in-None-clause-rest : goal.returns-in-None-clause-rest
returns-in-None-clause-rest c = λ more h.
    (quoted_closes c.loop-at.escaped (get_or c.args.inside.now c.loop-at.at 0) (drop (c.loop-at.at + 1) c.args.inside.now) more (sym c.quote_after.ensures ∙ c.in-None.is)
    (ap (behind_quoted c.loop-at.escaped) (sym (drop_at c.args.inside.now c.loop-at.at c.loop-at-test.true)) ∙ c.loop-at.invariant more h)).1
