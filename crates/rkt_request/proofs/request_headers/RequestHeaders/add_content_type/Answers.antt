use Rattle.std.proofs.Common.{◌≡◌, ap, sym, ◌∙◌, subst}
use Rattle.rkt_http.specs.Headers.{added}
use Rattle.rkt_media.specs.MediaText.{SpellsMedia}
use Rattle.rkt_request.specs.Seen.{ReadAs, first_value}
use Rattle.rkt_request.proofs.HeaderReads.{accept, both_ways, content_type, content_type_anew}
use Rattle.rkt_request.proofs.request_headers.RequestHeaders.add_content_type.Goals as goal

pub invariant_of-self : goal.invariant_of-self
invariant_of-self c =
    let others = subst (λ map. first_value (added map c.args.header) accept ≡ first_value map accept) (sym c.self.view_is) c.requires.others in
    both_ways c.add_with.result c.add_with.ensures.added c.add_with.ensures.read c.add_with.ensures.stays c.add_with.ensures.kept
    (λ grown read. rw read (content_type_anew c.self.invariant c.add_with.new.map c.args.header.value c.in_ok-content_type.content_type (ap (λ headers. first_value headers content_type) grown ∙ ap (λ map. first_value (added map c.args.header) content_type) c.self.view_is ∙ c.requires.first)
    (subst (λ text. ReadAs SpellsMedia text c.in_ok-content_type.content_type) c.value.ensures c.in_ok-content_type.ensures)
    (ap (λ headers. first_value headers accept) grown ∙ others)))
    (λ same kept. rw (same, kept) c.self.invariant)
