use Rattle.rkt_uri.proofs.Hosts.{one_host}
use Rattle.rkt_uri.proofs.host_law.spells_one_host.Goals as goal

pub returns : goal.returns
returns c = one_host
