use Rattle.std.proofs.Common.{◌∙◌, ap, length}
use Rattle.std.specs.List.{before_first}
use Rattle.rkt_uri.specs.Origin.{is_question, target_of}
use Rattle.rkt_uri.proofs.OriginLemmas.{splits_there, says_path, keeps_path}
use Rattle.rkt_uri.proofs.origin.Origin.clear_query.Goals as goal

pub truncate-requires : goal.truncate-requires
truncate-requires c =
    let end = ap length (c.before_first-end.ensures ∙ ap (before_first is_question) c.as_str.ensures) in
    λ within. splits_there _ _ end within

pub invariant_of-self : goal.invariant_of-self
invariant_of-self c =
    let end = ap length (c.before_first-end.ensures ∙ ap (before_first is_question) c.as_str.ensures) in
    rw (c.truncate.ensures, c.clear.ensures.items) (keeps_path _ _ _ end c.self.invariant.segments_are)

pub returns : goal.returns
returns c =
    let end = ap length (c.before_first-end.ensures ∙ ap (before_first is_question) c.as_str.ensures) in
    rw (← c.self.view_is) (ap target_of c.truncate.ensures ∙ says_path _ _ end)
