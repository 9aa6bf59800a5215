use Rattle.std.proofs.Common.{◌≡◌, ◌++◌, ◌∙◌, ◌<◌, ℕ, List, Option, Some, None, ap, arith, length, rules, sym}
use Rattle.std.specs.Prelude.{IfNone}
use Rattle.std.proofs.lemmas.Grind.{common_steps}
use Rattle.rkt_script.proofs.Headers.{field_cut, field_read}
use Rattle.rkt_script.proofs.script.read_field.Goals.{in_default-via-in-Ok+else-not-is_empty, in_default-via-in_default}
use Rattle.rkt_script.proofs.script.read_field.Goals as goal

if_none : {X : Type 0} {P : Type 0} (found : Option X) → P → IfNone found P
if_none None known = known
if_none (Some x) known = tt

pub returns-in_err-value-clause-refused : goal.returns-in_err-value-clause-refused
returns-in_err-value-clause-refused c =
    if_none c.from_residual-in_err-value.result (λ name value header.
    let cut = field_cut c.args.content.now c.in_ok-text.text.now c.split_token.result.0.now c.split_token.result.1.now name value c.in_ok-text.ensures.some c.split_token.ensures.token c.split_token.ensures.parts header in
    c.in_err-value.ensures.none value cut.rest_is)

pub returns-in-Ok-clause-read : goal.returns-in-Ok-clause-read
returns-in-Ok-clause-read c =
    let same : c.in-Ok.name.now ≡ c.split_token.result.0.now = grind (arith, common_steps, c.in-Ok.ensures.cases) in
    let some : 0 < length c.in-Ok.name.now = search rules in
    field_read c.args.content.now c.in_ok-text.text.now c.in-Ok.name.now c.split_token.result.1.now c.in_ok-value.value.now c.in_ok-text.ensures.some (same ∙ c.split_token.ensures.token)
    (c.split_token.ensures.parts ∙ ap (λ (word : List ℕ). word ++ c.split_token.result.1.now) (sym same)) c.in_ok-value.ensures.some some

pub returns-in_default-clause-refused : goal.returns-in_default-clause-refused
returns-in_default-clause-refused c name value header =
    let cut = field_cut c.args.content.now c.in_ok-text.text.now c.split_token.result.0.now c.split_token.result.1.now name value c.in_ok-text.ensures.some c.split_token.ensures.token c.split_token.ensures.parts header in
    elim c.in_default.branch [
      | in_default-via-in-Ok+else-not-is_empty w ↦
          let same : w.in-Ok.name.now ≡ c.split_token.result.0.now = grind (arith, common_steps, w.in-Ok.ensures.cases) in
          let none : length w.in-Ok.name.now ≡ 0 = search rules in
          let count : length w.in-Ok.name.now ≡ length c.split_token.result.0.now = ap length same in
          omega (arith, none, count, cut.some)
      | in_default-via-in_default w ↦ w.in_default.ensures.cases.0 cut.text
    ]
