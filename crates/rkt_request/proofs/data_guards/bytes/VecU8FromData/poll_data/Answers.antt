use Rattle.rkt_request.proofs.data_guards.bytes.VecU8FromData.poll_data.Goals as goal

pub returns-in-Pending : goal.returns-in-Pending
returns-in-Pending g c = c.in-Pending.ensures

pub returns-in-Ready-Ok : goal.returns-in-Ready-Ok
returns-in-Ready-Ok g c = λ request body gates n begun.
    (c.in-Ready-Ok.outcome, rw c.in-Ready-Ok.field-0-is at (c.in-Ready-Ok.ensures request body gates n begun), c.strict.ensures.value)
