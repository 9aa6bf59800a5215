use Rattle.rkt_ignition.specs.Ignited.{IsRefused}
use Rattle.rkt_ignition.proofs.Refusals.{handed_on}
use Rattle.rkt_life.proofs.ignition.RocketOf+AppBuilding+A+A.ignite.Goals as goal

pub returns-in_err-parts-clause-refused : goal.returns-in_err-parts-clause-refused
returns-in_err-parts-clause-refused g c =
    handed_on c.ignite.result c.from_residual.result c.in_err-parts.field-0.0
    (IsRefused g.A.Fairing.Ignites.IgniteCallback.calling g.A.Fairing.Attach.key g.A.Fairing.Attach.info g.A.Sentinel.Aborts.may c.self.inside.state)
    (IsRefused g.A.Fairing.Ignites.IgniteCallback.calling g.A.Fairing.Attach.key g.A.Fairing.Attach.info g.A.Sentinel.Aborts.may c.args.self) c.in_err-parts.was c.from_residual.ensures.1
    (λ e refuses. rw (← c.self.view_is) refuses) c.ignite.ensures.refused

pub returns-in_err-parts-clause-complete : goal.returns-in_err-parts-clause-complete
returns-in_err-parts-clause-complete g c =
    λ valid. handed_on c.ignite.result c.from_residual.result c.in_err-parts.field-0.0 (λ e. ⊥) (λ e. ⊥) c.in_err-parts.was c.from_residual.ensures.1
    (λ e is. is) (c.ignite.ensures.complete (rw c.self.view_is valid))

pub returns-clause-ranks_differ : goal.returns-clause-ranks_differ
returns-clause-ranks_differ g c = rw c.in_ok-from_tables.ensures.tables c.ranks_differ.ensures

pub returns-clause-one_catches : goal.returns-clause-one_catches
returns-clause-one_catches g c = rw c.in_ok-from_tables.ensures.tables c.at_most_one_catches.ensures
