use Rattle.std.proofs.Common.{◌∙◌, ap, sym}
use Rattle.std.specs.List.{position, remove}
use Rattle.rkt_http.specs.Headers.{is_named}
use Rattle.rkt_http.proofs.Groups.{removed_there, removed_none}
use Rattle.rkt_http.proofs.header_map.HeaderMap.remove.Goals as goal

pub returns-in-Some : goal.returns-in-Some
returns-in-Some c =
    let view = sym (c.as_slice.ensures.value ∙ c.self.view_is) in
    c.remove.ensures.items ∙ ap (λ groups. remove groups c.in-Some.at) c.self.view_is
    ∙ removed_there c.args.self.now c.args.name.now c.in-Some.at (ap (position (is_named c.args.name.now)) view ∙ sym c.place_of.ensures.place ∙ c.in-Some.is)

pub returns-in-None : goal.returns-in-None
returns-in-None c =
    let view = sym (c.as_slice.ensures.value ∙ c.self.view_is) in
    removed_none c.args.self.now c.args.name.now (ap (position (is_named c.args.name.now)) view ∙ sym c.place_of.ensures.place ∙ c.in-None.is)
