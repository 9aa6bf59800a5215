use Rattle.std.proofs.Common.{◌≡◌, sym, ap, ◌∙◌}
use Rattle.std.proofs.lemmas.Result.{IfOk-weaker}
use Rattle.rkt_cookie.specs.Reading.{attribute_by, attribute_of, value_in, valued}
use Rattle.rkt_cookie.proofs.ParseLemmas.{attribute_by_valued}
use Rattle.rkt_cookie.proofs.parse.parse_attribute.Goals as goal

pub returns-in-Some : goal.returns-in-Some
returns-in-Some c =
    let piece = c.args.piece.now in
    let name = c.name_of-name.result.now in
    let by_name = attribute_by_valued name c.in-Some.value.now
    (sym c.is_named.ensures ∙ c.if-is_named.false) (sym c.is_named-2.ensures ∙ c.if-is_named-2.false) in
    let by_piece = ap (attribute_by name) c.in-Some.ensures ∙ ap (λ n. attribute_by n (value_in piece)) c.name_of-name.ensures in
    IfOk-weaker c.parse_valued.result (λ a. a ≡ valued name c.in-Some.value.now) (λ a. a ≡ attribute_of piece)
    (λ a e. e ∙ sym by_name ∙ by_piece) c.parse_valued.ensures
