use Rattle.rkt_request.specs.LentLaws.{may_grow_again}
use Rattle.rkt_answers.proofs.answers_data.value_step.Goals as goal

pub returns-in_default-clause-grows : goal.returns-in_default-clause-grows
returns-in_default-clause-grows g c = c.in_default.ensures.grows

pub returns-in-Ok-from-clause-steps : goal.returns-in-Ok-from-clause-steps
returns-in-Ok-from-clause-steps g c =
    let answered = c.in-Ok-from.ensures.answers in (
      answered.0,
      record { value = c.in-Ok.value; between = c.answer.new.ctx; made = c.in-Ok.ensures.answers; may = answered.1 },
      answered.2,
    )

pub returns-in-Ok-from-clause-grows : goal.returns-in-Ok-from-clause-grows
returns-in-Ok-from-clause-grows g c = may_grow_again c.args.ctx.now c.answer.new.ctx c.from.new.ctx c.in-Ok.ensures.grows c.in-Ok-from.ensures.grows

pub returns-in-Err-clause-grows : goal.returns-in-Err-clause-grows
returns-in-Err-clause-grows g c = may_grow_again c.args.ctx.now c.answer.new.ctx c.from.new.ctx c.in-Ok.ensures.grows c.in-Err.ensures.grows
