use Rattle.std.proofs.Common.{refl, ap, ◌∙◌, subst}
use Rattle.rkt_media.specs.MediaText.{SpellsMedia}
use Rattle.rkt_request.specs.Seen.{ReadAs, first_value}
use Rattle.rkt_request.proofs.FirstValues.{first_value-replaced, first_value-replaced_other, other_name}
use Rattle.rkt_request.proofs.HeaderReads.{accept, both_ways, content_type, content_type_anew}
use Rattle.rkt_request.proofs.request_headers.RequestHeaders.replace_content_type.Goals as goal

pub invariant_of-self : goal.invariant_of-self
invariant_of-self c =
    both_ways c.replace_with.result c.replace_with.ensures.replaced c.replace_with.ensures.read c.replace_with.ensures.stays c.replace_with.ensures.kept
    (λ changed read. rw read (content_type_anew c.self.invariant c.replace_with.new.map c.args.header.value c.in_ok-content_type.content_type
    (ap (λ headers. first_value headers content_type) changed ∙ first_value-replaced c.self.inside.map c.args.header content_type c.requires)
    (subst (λ text. ReadAs SpellsMedia text c.in_ok-content_type.content_type) c.value.ensures c.in_ok-content_type.ensures)
    (ap (λ headers. first_value headers accept) changed ∙ first_value-replaced_other c.self.inside.map c.args.header accept (other_name c.args.header.name content_type accept c.requires refl))))
    (λ same kept. rw (same, kept) c.self.invariant)
