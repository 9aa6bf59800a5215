use Rattle.std.proofs.Common.{◌∙◌, ◌≡◌, ◌++◌, List, ℕ, [], sym, ap, subst, drop, length, flat_map, arith, append-nil}
use Rattle.std.proofs.lemmas.List.{drop_all}
use Rattle.rkt_media.specs.Media.{Media, Parameter, parameter_text}
use Rattle.rkt_media.specs.MediaText.{SpellsMedia, IsSpelled}
use Rattle.rkt_media.proofs.MediaParts.{printed}
use Rattle.rkt_media.proofs.media_type.MediaType.to_text.Goals as goal

pub returns-clause-text : goal.returns-clause-text
returns-clause-text c =
    let done : drop c.loop-name.name-index c.args.self.now.parameters ≡ [] =
    drop_all c.loop-name.name-index c.args.self.now.parameters (omega (arith, ap (λ (m : Media). length m.parameters) c.self.view_is)) in
    sym (append-nil c.loop-name.text) ∙ ap (λ (ps : List Parameter). c.loop-name.text ++ flat_map parameter_text ps) (sym done) ∙ c.loop-name.invariant

pub returns-clause-read_again : goal.returns-clause-read_again
returns-clause-read_again c =
    let Reads : List ℕ → Type 0 = λ text. SpellsMedia text c.args.self.now in
    subst Reads (sym (returns-clause-text c)) (printed c.args.self.now (subst IsSpelled c.self.view_is c.self.invariant))
