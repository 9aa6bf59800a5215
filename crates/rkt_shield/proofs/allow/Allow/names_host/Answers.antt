use Rattle.std.proofs.Common.{◌↔◌, sym, subst}
use Rattle.std.specs.Prelude.{IsTrue}
use Rattle.rkt_shield.specs.Allow.{NamesHost}
use Rattle.rkt_shield.proofs.allow.Allow.names_host.Goals as goal

pub returns-in-Origin : goal.returns-in-Origin
returns-in-Origin c = subst (λ allow. IsTrue c.has_host.result ↔ NamesHost allow) (sym c.in-Origin.is) c.has_host.ensures
