use Rattle.rkt_request.proofs.from_text.ParsedFromData.poll_data.Goals as goal

pub returns-in-Pending : goal.returns-in-Pending
returns-in-Pending g c = c.in-Pending.ensures

pub returns-in-Ok : goal.returns-in-Ok
returns-in-Ok g c = λ request body gates n begun.
    (c.in-Ready-Ok.outcome, rw c.in-Ready-Ok.field-0-is at (c.in-Ready-Ok.ensures request body gates n begun), c.in-Ok.ensures)
