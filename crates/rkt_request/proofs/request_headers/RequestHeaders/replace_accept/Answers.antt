use Rattle.std.proofs.Common.{refl, ap, ◌∙◌, subst}
use Rattle.rkt_media.specs.AcceptText.{SpellsAccept}
use Rattle.rkt_request.specs.Seen.{ReadAs, first_value}
use Rattle.rkt_request.proofs.FirstValues.{first_value-replaced, first_value-replaced_other, other_name}
use Rattle.rkt_request.proofs.HeaderReads.{accept, accept_anew, both_ways, content_type}
use Rattle.rkt_request.proofs.request_headers.RequestHeaders.replace_accept.Goals as goal

pub invariant_of-self : goal.invariant_of-self
invariant_of-self c =
    both_ways c.replace_with.result c.replace_with.ensures.replaced c.replace_with.ensures.read c.replace_with.ensures.stays c.replace_with.ensures.kept
    (λ changed read. rw read (accept_anew c.self.invariant c.replace_with.new.map c.args.header.value c.in_ok-accept.accept
    (ap (λ headers. first_value headers accept) changed ∙ first_value-replaced c.self.inside.map c.args.header accept c.requires)
    (subst (λ text. ReadAs SpellsAccept text c.in_ok-accept.accept) c.value.ensures c.in_ok-accept.ensures)
    (ap (λ headers. first_value headers content_type) changed ∙ first_value-replaced_other c.self.inside.map c.args.header content_type (other_name c.args.header.name accept content_type c.requires refl))))
    (λ same kept. rw (same, kept) c.self.invariant)
