use Rattle.std.proofs.Common.{◌≡◌, ap, sym, ◌∙◌, subst}
use Rattle.rkt_http.specs.Headers.{added}
use Rattle.rkt_media.specs.AcceptText.{SpellsAccept}
use Rattle.rkt_request.specs.Seen.{ReadAs, first_value}
use Rattle.rkt_request.proofs.HeaderReads.{accept, accept_anew, both_ways, content_type}
use Rattle.rkt_request.proofs.request_headers.RequestHeaders.add_accept.Goals as goal

pub invariant_of-self : goal.invariant_of-self
invariant_of-self c =
    let others = subst (λ map. first_value (added map c.args.header) content_type ≡ first_value map content_type) (sym c.self.view_is) c.requires.others in
    both_ways c.add_with.result c.add_with.ensures.added c.add_with.ensures.read c.add_with.ensures.stays c.add_with.ensures.kept
    (λ grown read. rw read (accept_anew c.self.invariant c.add_with.new.map c.args.header.value c.in_ok-accept.accept (ap (λ headers. first_value headers accept) grown ∙ ap (λ map. first_value (added map c.args.header) accept) c.self.view_is ∙ c.requires.first)
    (subst (λ text. ReadAs SpellsAccept text c.in_ok-accept.accept) c.value.ensures c.in_ok-accept.ensures)
    (ap (λ headers. first_value headers content_type) grown ∙ others)))
    (λ same kept. rw (same, kept) c.self.invariant)
