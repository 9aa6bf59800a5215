use Rattle.std.proofs.Common.{rules}
use Rattle.rkt_script.proofs.Adding.{shutdown_adds}
use Rattle.rkt_script.proofs.script.read_shutdown.Goals as goal

pub returns-clause-read : goal.returns-clause-read
returns-clause-read c = shutdown_adds c.args.requests.now.items c.args.content.now _ (search rules) (search rules)
