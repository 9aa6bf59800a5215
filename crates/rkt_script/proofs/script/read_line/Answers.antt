use Rattle.std.proofs.Common.{rules}
use Rattle.rkt_script.proofs.Adding.{skipped_adds}
use Rattle.rkt_script.proofs.script.read_line.Goals as goal

pub returns-in-empty-clause-read : goal.returns-in-empty-clause-read
returns-in-empty-clause-read c = skipped_adds c.args.requests.now.items c.args.content.now (search rules)

pub returns-in-empty-2-clause-read : goal.returns-in-empty-2-clause-read
returns-in-empty-2-clause-read c = skipped_adds c.args.requests.now.items c.args.content.now (search rules)
