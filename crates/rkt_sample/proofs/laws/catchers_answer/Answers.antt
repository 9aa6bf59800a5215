use Rattle.std.proofs.Common.{ℕ, subst, sym}
use Rattle.rkt_request.specs.Lent.{Kept}
use Rattle.rkt_source.specs.Memory.{SourceInMemory}
use Rattle.rkt_sample.specs.Added.{AddsOnly}
use Rattle.rkt_sample.specs.Catching.{added_by}
use Rattle.rkt_sample.specs.MadeLaws.{catcher_made}
use Rattle.rkt_sample.specs.RoutingLaws.{adds_added}
use Rattle.rkt_sample.proofs.laws.catchers_answer.Goals as goal

pub returns : goal.returns
returns c = λ rule turns catcher refused before after answer some made.
    let is = catcher_made rule turns some SourceInMemory before after catcher refused answer made in
    record { gives = is.0; leaves = is.1; adds = subst (λ (kept : Kept ℕ). AddsOnly before kept) (sym is.1) (adds_added (added_by catcher) before) }
