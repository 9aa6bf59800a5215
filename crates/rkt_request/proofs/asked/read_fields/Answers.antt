use Rattle.std.proofs.Common.{subst, codes, ◌∙◌}
use Rattle.rkt_http.specs.Headers.{values_of}
use Rattle.rkt_request.specs.Incoming.{IsJar}
use Rattle.rkt_uri.specs.Host.{SpellsHost}
use Rattle.rkt_request.specs.Seen.{MaybeReadAs, first_value}
use Rattle.rkt_request.proofs.asked.read_fields.Goals as goal

pub returns-clause-headers : goal.returns-clause-headers
returns-clause-headers c = c.in_ok-headers.ensures ∙ c.in_ok-map.ensures

pub returns-clause-host : goal.returns-clause-host
returns-clause-host c = subst (λ headers. MaybeReadAs SpellsHost (first_value headers (codes "Host")) c.in_ok-host.host) c.in_ok-map.ensures c.in_ok-host.ensures

pub returns-clause-cookies : goal.returns-clause-cookies
returns-clause-cookies c = subst (λ headers. IsJar (values_of headers (codes "Cookie")) c.in_ok-jar.jar) c.in_ok-map.ensures c.in_ok-jar.ensures
