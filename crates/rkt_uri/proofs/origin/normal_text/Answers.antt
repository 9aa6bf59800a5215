use Rattle.std.proofs.Common.{◌≡◌, ◌++◌, ◌∷◌, ap, ◌∙◌, sym, List, ℕ, Option}
use Rattle.std.specs.List.{join_with_byte}
use Rattle.std.specs.Option.{option_copied}
use Rattle.rkt_grammar.specs.Grammar.{behind_first}
use Rattle.rkt_uri.specs.Origin.{pieces, query_text, joined_unless_none, is_ampersand}
use Rattle.rkt_uri.proofs.Joins.{behind_first-led}
use Rattle.rkt_uri.proofs.origin.normal_text.Goals as goal

pub returns : goal.returns
returns c =
    let path : List ℕ = 47 ∷ join_with_byte 47 (pieces 47 c.args.path.now) in
    let query : joined_unless_none 38 (pieces 38 c.args.query.now) ≡ option_copied c.behind_first.result =
    sym (behind_first-led (pieces 38 c.args.query.now)) ∙ ap (behind_first is_ampersand) (sym (c.as_str.ensures.value ∙ c.in_ok-fields.ensures)) ∙ sym c.behind_first.ensures in
    c.from_string.ensures ∙ c.in_ok-push_query.ensures
    ∙ ap (λ (text : List ℕ). text ++ query_text (option_copied c.behind_first.result)) c.in_ok-text.ensures
    ∙ ap (λ (q : Option (List ℕ)). path ++ query_text q) (sym query)
