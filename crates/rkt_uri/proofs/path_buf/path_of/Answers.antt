use Rattle.std.proofs.Common.{ℕ, List, map, sym, ◌∙◌, ap, Bor}
use Rattle.std.specs.List.{join_with_byte}
use Rattle.rkt_uri.proofs.Paths.{goes_down}
use Rattle.rkt_uri.proofs.path_buf.path_of.Goals as goal

pub invariant_of-result : goal.invariant_of-result
invariant_of-result c =
    goes_down c.args.dots c.args.segments.now c.in_ok-join-in-None.field-0 (sym c.first_fault.ensures ∙ c.in-None.is)
    (c.in_ok-join-in-None.ensures ∙ ap (λ (names : List (Bor (List ℕ))). join_with_byte 47 (map (λ name. name.now) names)) c.as_slice.ensures.value ∙ ap (join_with_byte 47) c.in_ok-names-in-None.ensures)

pub returns-in_ok-join-in-None-clause-down : goal.returns-in_ok-join-in-None-clause-down
returns-in_ok-join-in-None-clause-down c =
    goes_down c.args.dots c.args.segments.now c.in_ok-join-in-None.field-0 (sym c.first_fault.ensures ∙ c.in-None.is)
    (c.in_ok-join-in-None.ensures ∙ ap (λ (names : List (Bor (List ℕ))). join_with_byte 47 (map (λ name. name.now) names)) c.as_slice.ensures.value ∙ ap (join_with_byte 47) c.in_ok-names-in-None.ensures)
