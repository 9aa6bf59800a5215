use Rattle.std.specs.Prelude.{codes}
use Rattle.rkt_data.specs.Gathering.{GathersBytes}
use Rattle.rkt_request.proofs.Readings.{reading-waits, capped-ends}
use Rattle.rkt_request.proofs.data_guards.bytes.CappedVecU8FromData.poll_data.Goals as goal

pub returns-in-Pending : goal.returns-in-Pending
returns-in-Pending g c = λ request body gates n begun.
    let polled = c.in-Pending.ensures in
    let answer = polled.answer begun.2.failed in
    let more = reading-waits _ _ begun.0 body gates c.args.gate n c.args.reading.now c.poll.new.self begun.2 polled.from polled.follows (polled.by_gate begun.2.failed) polled.bound answer.0 answer.1 answer.2 in
    (more.0, (begun.0, begun.1, more.1))

pub returns-in-Ready : goal.returns-in-Ready
returns-in-Ready g c = λ request body gates n begun.
    let polled = c.in-Ready.ensures in
    capped-ends _ _ GathersBytes (codes "bytes") 8192 request body gates c.args.gate n c.args.reading.now c.poll.new.self c.in-Ready.answer c.or_bad_request.result begun polled.follows (polled.by_gate begun.2.failed) polled.bound (polled.answer begun.2.failed) c.or_bad_request.ensures
