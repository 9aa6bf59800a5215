use Rattle.std.proofs.Common.{◌∙◌, Err}
use Rattle.rkt_ignition.proofs.Refusals.{all_ignited, begins_so, calls_refused, left_refused, refused_so}
use Rattle.rkt_ignition.proofs.Valid.{never_refused}
use Rattle.rkt_ignition.proofs.igniting.ignite.Goals as goal

pub returns-in-Ok-clause-ignited : goal.returns-in-Ok-clause-ignited
returns-in-Ok-clause-ignited g c =
    all_ignited g.P.IgniteCallback.calling g.F.Attach.key g.F.Attach.info g.A.Sentinel.Aborts.may c.args.building _ (record { attached = c.called.new.attached; building = c.called.new.building })
    (begins_so c.args.building _ c.replace-attached.result c.replace-attached.new.dest c.building.view_is c.replace-attached.ensures.value (c.replace-attached.ensures.after ∙ c.new.ensures))
    c.in-Ok.ensures.ok.0 c.in-Ok.ensures.ok.1 c.in-Ok.ensures.none_failed c.ready.result c.ready.ensures.made c.ready.ensures.accepted

pub returns-in-Ok-clause-refused : goal.returns-in-Ok-clause-refused
returns-in-Ok-clause-refused g c =
    refused_so c.ready.result _ _
    (left_refused g.P.IgniteCallback.calling g.F.Attach.key g.F.Attach.info g.A.Sentinel.Aborts.may c.args.building _ (record { attached = c.called.new.attached; building = c.called.new.building })
    (begins_so c.args.building _ c.replace-attached.result c.replace-attached.new.dest c.building.view_is c.replace-attached.ensures.value (c.replace-attached.ensures.after ∙ c.new.ensures))
    c.in-Ok.ensures.ok.0 c.in-Ok.ensures.ok.1 c.in-Ok.ensures.none_failed)
    c.ready.ensures.refused

pub returns-in-Ok-clause-complete : goal.returns-in-Ok-clause-complete
returns-in-Ok-clause-complete g c =
    λ valid. never_refused g.P.IgniteCallback.calling g.F.Attach.key g.F.Attach.info g.A.Sentinel.Aborts.may c.args.building valid c.ready.result (returns-in-Ok-clause-refused g c)

pub returns-in-Err-clause-refused : goal.returns-in-Err-clause-refused
returns-in-Err-clause-refused g c =
    refused_so {T = Unit {0}} (Err c.in-Err.refused) _ _
    (calls_refused g.P.IgniteCallback.calling g.F.Attach.key g.F.Attach.info g.A.Sentinel.Aborts.may c.args.building _ (record { attached = c.called.new.attached; building = c.called.new.building })
    (begins_so c.args.building _ c.replace-attached.result c.replace-attached.new.dest c.building.view_is c.replace-attached.ensures.value (c.replace-attached.ensures.after ∙ c.new.ensures)))
    c.in-Err.ensures.refused

pub returns-in-Err-clause-complete : goal.returns-in-Err-clause-complete
returns-in-Err-clause-complete g c =
    λ valid. never_refused g.P.IgniteCallback.calling g.F.Attach.key g.F.Attach.info g.A.Sentinel.Aborts.may c.args.building valid {T = Unit {0}} (Err c.in-Err.refused) (returns-in-Err-clause-refused g c)
