use Rattle.std.proofs.Common.{refl, ap, ◌∙◌}
use Rattle.rkt_request.specs.Seen.{first_value}
use Rattle.rkt_request.proofs.FirstValues.{first_value-added_other, other_name}
use Rattle.rkt_request.proofs.HeaderReads.{accept, all_stay, content_type}
use Rattle.rkt_request.proofs.request_headers.RequestHeaders.add.Goals as goal

pub invariant_of-self-2 : goal.invariant_of-self-2
invariant_of-self-2 c =
    let grown = c.in_ok-add.ensures.ok in
    all_stay c.self.invariant c.add.new.self (ap (λ headers. first_value headers content_type) grown ∙ c.if-is_first.ensures.first) (ap (λ headers. first_value headers accept) grown ∙ c.if-is_first-2.ensures.first)

pub add_content_type-requires-clause-others : goal.add_content_type-requires-clause-others
add_content_type-requires-clause-others c = first_value-added_other _ c.args.header accept (other_name c.args.header.name content_type accept (c.if-is_first.ensures.named refl) refl)
