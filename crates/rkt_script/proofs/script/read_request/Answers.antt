use Rattle.std.proofs.Common.{rules}
use Rattle.rkt_script.proofs.Adding.{request_adds}
use Rattle.rkt_script.proofs.script.read_request.Goals as goal

pub returns-clause-read : goal.returns-clause-read
returns-clause-read c = request_adds c.args.requests.now.items c.args.content.now c.in-Some.method.now c.in-Some.target.now _ c.in-Some.ensures.read (search rules)
