use Rattle.std.proofs.Common.{rules, refl, sym, ◌++◌, ◌∙◌, ap, map, codes}
use Rattle.std.specs.Fmt.{HasWritten}
use Rattle.std.proofs.Output.{has_written_append}
use Rattle.rkt_config.specs.Limits.{limit_text}
use Rattle.rkt_config.proofs.LimitTexts.{seen, text_begins, text_goes_on, text_ends}
use Rattle.rkt_config.proofs.limits.LimitsDisplay.fmt.Goals as goal

pub loop-name-init : goal.loop-name-init
loop-name-init g c =
    λ plain. (
      limit_text (c.as_str.result.now, c.in-Some.limit.now),
      c.in_ok-write_limit.ensures plain refl,
      rw c.into_iter-name-iterator.ensures.into_iter_gives (text_begins _ _ _ _ c.in-Some.name.now c.in-Some.limit.now (sym c.self.view_is ∙ ap (map seen) (sym c.iter-limits.ensures.rest)) c.in-Some.ensures.steps c.as_str.ensures.value),
    )

pub loop-name-preserved : goal.loop-name-preserved
loop-name-preserved g c =
    λ plain.
    let now = c.loop-name.invariant plain in
    let parted : HasWritten g.W.Write.write_str_gives c.args.f.now (now.0 ++ codes ", ") c.write_str.new.self = has_written_append _ _ _ _ _ _ now.1 (search rules) in (
      (now.0 ++ codes ", ") ++ limit_text (c.as_str-in-loop-name.result.now, c.in-Some-2.limit.now),
      has_written_append _ _ _ _ _ _ parted (search rules),
      text_goes_on _ now.0 _ _ _ c.in-Some-2.name.now c.in-Some-2.limit.now now.2 c.in-Some-2.ensures.steps c.as_str-in-loop-name.ensures.value,
    )

pub returns-clause-writes : goal.returns-clause-writes
returns-clause-writes g c =
    λ plain sure.
    let now = c.loop-name.invariant plain in
    rw (← text_ends _ _ _ now.2 c.in-None.ensures.steps.0) now.1
