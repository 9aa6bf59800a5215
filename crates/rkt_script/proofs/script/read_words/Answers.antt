use Rattle.std.proofs.Common.{◌≡◌, ◌∙◌, ◌<◌, length, lit<, ap, arith}
use Rattle.std.specs.List.{position_or_len, before_first, after_first}
use Rattle.std.proofs.lemmas.Bool.{false≢true}
use Rattle.std.proofs.lemmas.Grind.{common_steps}
use Rattle.rkt_script.specs.Script.{is_word, is_capital, is_visible}
use Rattle.rkt_script.proofs.Requests.{IsUtf8-request, is_space, request_within, request_cut}
use Rattle.rkt_script.proofs.script.read_words.Goals.{else-is_method-via-then-is_method+else-is_target, else-is_method-via-else-is_method}
use Rattle.rkt_script.proofs.script.read_words.Goals as goal

pub returns-in_default-clause-refused : goal.returns-in_default-clause-refused
returns-in_default-clause-refused c method target is = c.in_default.ensures.cases.0 (IsUtf8-request c.args.content.now method target is)

pub returns-in_default-split_once-clause-refused : goal.returns-in_default-split_once-clause-refused
returns-in_default-split_once-clause-refused c method target is =
    let text : c.in-Ok.text.now ≡ c.args.content.now = grind (arith, common_steps, c.in-Ok.ensures.cases) in
    let none : position_or_len is_space c.args.content.now ≡ length c.args.content.now = rw (← text) (c.in_default-split_once.ensures.byte (lit< tt) (λ w o found. found)) in
    let within : position_or_len is_space c.args.content.now < length c.args.content.now = request_within c.args.content.now method target is in
    omega (arith, none, within)

pub returns-else-is_method-clause-refused : goal.returns-else-is_method-clause-refused
returns-else-is_method-clause-refused c method target is =
    let text : c.in-Ok.text.now ≡ c.args.content.now = grind (arith, common_steps, c.in-Ok.ensures.cases) in
    let split = c.in-Some.ensures.byte (lit< tt) (λ w o found. found) in
    let cut = request_cut c.args.content.now method target is in
    let method_is : c.in-Some.method.now ≡ method = split.0 ∙ ap (before_first is_space) text ∙ cut.0 in
    let target_is : c.in-Some.target.now ≡ target = split.1 ∙ ap (after_first is_space) text ∙ cut.1 in
    elim c.else-is_method.branch [
      | else-is_method-via-then-is_method+else-is_target w ↦ false≢true (w.if-is_target.ensures ∙ ap (is_word is_visible) target_is ∙ is.visible)
      | else-is_method-via-else-is_method w ↦ false≢true (w.if-is_method.ensures ∙ ap (is_word is_capital) method_is ∙ is.letters)
    ]
