use Rattle.std.proofs.Common.{◌≡◌, ◌<◌, length, rules}
use Rattle.std.specs.Prelude.{vec_len}
use Rattle.rkt_script.proofs.Adding.{header_adds}
use Rattle.rkt_script.proofs.script.read_header.Goals as goal

pub returns-in_ok-push_header-in-Some-last_mut-clause-read : goal.returns-in_ok-push_header-in-Some-last_mut-clause-read
returns-in_ok-push_header-in-Some-last_mut-clause-read c =
    let count : vec_len c.args.requests.now ≡ length c.args.requests.now.items = search rules in
    let some : 0 < vec_len c.args.requests.now = search rules in
    header_adds c.args.requests.now.items c.args.content.now (vec_len c.args.requests.now) c.in-Some-last_mut.request.now c.push_header.new.request count some c.in-Some-last_mut.ensures.value _ _
    c.in_ok-push_header-in-Some-last_mut.ensures c.in-Some.ensures.read
