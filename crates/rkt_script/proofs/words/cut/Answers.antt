use Rattle.std.proofs.Common.{◌≡◌, ◌∙◌, ap, length, lit<, rules, sym}
use Rattle.rkt_script.proofs.WordLemmas.{no_equals, no_name, none_of}
use Rattle.rkt_script.specs.Words.{is_equals}
use Rattle.rkt_script.proofs.words.cut.Goals.{in_default-via-in-Some+else-not-is_empty, in_default-via-in_default}
use Rattle.rkt_script.proofs.words.cut.Goals as goal

pub returns-in_default-clause-none : goal.returns-in_default-clause-none
returns-in_default-clause-none c setting =
    elim c.in_default.branch [
      | in_default-via-in-Some+else-not-is_empty w ↦
          let split = w.in-Some.ensures.byte (lit< tt) (λ p o found. found) in
          let none : length w.in-Some.name.now ≡ 0 = search rules in
          no_name c.args.word.now (sym (ap length split.0) ∙ none) setting
      | in_default-via-in_default w ↦ no_equals c.args.word.now (none_of is_equals c.args.word.now (w.in_default.ensures.byte (lit< tt) (λ p o found. found))) setting
    ]
