use Rattle.std.proofs.Common.{sym, ap, ◌∙◌}
use Rattle.rkt_request.specs.Seen.{first_value}
use Rattle.rkt_request.proofs.FirstValues.{first_value-replaced_other}
use Rattle.rkt_request.proofs.HeaderReads.{accept, all_stay, content_type}
use Rattle.rkt_request.proofs.request_headers.RequestHeaders.replace.Goals as goal

pub invariant_of-self-2 : goal.invariant_of-self-2
invariant_of-self-2 c =
    let changed = c.in_ok-replace.ensures.ok in
    all_stay c.self.invariant c.replace.new.self
    (ap (λ headers. first_value headers content_type) changed ∙ first_value-replaced_other c.self.inside.map c.args.header content_type (sym c.is_named.ensures ∙ c.if-is_named.false))
    (ap (λ headers. first_value headers accept) changed ∙ first_value-replaced_other c.self.inside.map c.args.header accept (sym c.is_named-2.ensures ∙ c.if-is_named-2.false))
