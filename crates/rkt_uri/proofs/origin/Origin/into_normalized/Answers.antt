use Rattle.std.proofs.Common.{◌≡◌, ◌∙◌, ap, sym, rules, unwrap_or, [], map}
use Rattle.rkt_uri.specs.Origin.{target_of, normalized, decoded, field_of, segments_of, fields_of}
use Rattle.rkt_uri.proofs.Normal.{normalized_again, raw_segments-normalized, pieces-normal_query, target_of-normalized, keeps_parts}
use Rattle.rkt_uri.proofs.NormalForms.{normalized_fits}
use Rattle.rkt_uri.proofs.origin.Origin.into_normalized.Goals as goal

said : (c : goal.After-drop-self-inside-2) → target_of c.in_ok-text.text ≡ normalized c.args.self
said c =
    let query : c.unwrap_or.result.now ≡ unwrap_or c.args.self.query [] = search rules in
    ap target_of c.in_ok-text.ensures ∙ target_of-normalized c.self.inside.text c.path.result.now c.unwrap_or.result.now c.args.self c.path.ensures query c.self.view_is

pub returns-clause-value : goal.returns-clause-value
returns-clause-value c = said c

pub returns-clause-settled : goal.returns-clause-settled
returns-clause-settled c = ap normalized (said c) ∙ normalized_again c.args.self ∙ sym (said c)

pub returns-clause-same_segments : goal.returns-clause-same_segments
returns-clause-same_segments c = ap segments_of (said c) ∙ ap (map decoded) (raw_segments-normalized c.args.self)

pub returns-clause-same_fields : goal.returns-clause-same_fields
returns-clause-same_fields c = ap fields_of (said c) ∙ ap (map field_of) (pieces-normal_query c.args.self)

pub returns-clause-spelled : goal.returns-clause-spelled
returns-clause-spelled c = λ profile fits. rw (said c) (normalized_fits profile c.args.self fits)

pub invariant_of-result : goal.invariant_of-result
invariant_of-result c =
    let query : c.unwrap_or.result.now ≡ unwrap_or c.args.self.query [] = search rules in
    keeps_parts c.self.inside.text _ _ _ c.self.invariant
    (ap target_of c.in_ok-text.ensures ∙ target_of-normalized c.self.inside.text c.path.result.now c.unwrap_or.result.now c.args.self c.path.ensures query c.self.view_is ∙ ap normalized (sym c.self.view_is))
