use Rattle.std.proofs.Common.{ℕ, subst, sym}
use Rattle.rkt_request.specs.Lent.{Kept}
use Rattle.rkt_source.specs.Memory.{SourceInMemory, source_meaning}
use Rattle.rkt_sample.specs.Added.{AddsOnly}
use Rattle.rkt_sample.specs.MadeLaws.{route_made}
use Rattle.rkt_sample.specs.RoutingLaws.{adds_only}
use Rattle.rkt_sample.proofs.laws.routes_reply.Goals as goal

pub returns : goal.returns
returns c = λ rule turns word route handed before after reply calm some uncut made.
    let is = route_made rule turns some SourceInMemory before after source_meaning word route handed reply calm uncut made in
    record { gives = is.0; leaves = is.1; adds = subst (λ (kept : Kept ℕ). AddsOnly before kept) (sym is.1) (adds_only word route before) }
