use Rattle.std.proofs.Common.{Err}
use Rattle.rkt_ignition.proofs.Refusals.{handed_on, parts_refused, refused_so, table_refused}
use Rattle.rkt_ignition.proofs.igniting.ready.Goals as goal

pub returns-in_err-parts-clause-refused : goal.returns-in_err-parts-clause-refused
returns-in_err-parts-clause-refused g c =
    handed_on c.made.result c.from_residual.result c.in_err-parts.field-0.0 _ _ c.in_err-parts.was c.from_residual.ensures.1
    (table_refused g.A.Sentinel.Aborts.may (record { attached = c.args.attached; building = c.args.building })) c.made.ensures.refused

pub returns-in-Err-clause-refused : goal.returns-in-Err-clause-refused
returns-in-Err-clause-refused g c =
    refused_so {T = Unit {0}} (Err c.in-Err.refused) _ _
    (parts_refused g.A.Sentinel.Aborts.may (record { attached = c.args.attached; building = c.args.building }) c.in_ok-parts.parts c.in_ok-parts.ensures.ok) c.in-Err.ensures.refused
