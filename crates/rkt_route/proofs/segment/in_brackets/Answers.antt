use Rattle.std.proofs.Common.{◌∙◌, ap, sym, codes, option_copied}
use Rattle.std.specs.Option.{option_and_then}
use Rattle.rkt_route.specs.Segment.{without_end}
use Rattle.rkt_route.proofs.Strips.{stripped-front, stripped-end}
use Rattle.rkt_route.proofs.segment.in_brackets.Goals as goal

pub returns : goal.returns
returns c =
    stripped-end (codes ">") _ c.strip_suffix.result c.strip_suffix.ensures.cases
    ∙ ap (option_and_then (without_end (codes ">"))) (ap option_copied (sym c.in_ok-strip_prefix.was) ∙ stripped-front (codes "<") c.args.text.now c.strip_prefix.result c.strip_prefix.ensures.cases)
