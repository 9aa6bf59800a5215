use Rattle.std.proofs.Common.{sym, ◌∙◌}
use Rattle.rkt_dispatch.proofs.SetMethods.{sets}
use Rattle.rkt_dispatch.proofs.overriding.set_method.Goals as goal

pub returns-then-eq : goal.returns-then-eq
returns-then-eq c =
    let said = c.name_and_value in
    sets c.args.field.now said.result.0.now said.result.1.now c.from_str.result said.ensures.name said.ensures.value (sym c.eq.ensures ∙ c.if-eq.true) c.from_str.ensures
