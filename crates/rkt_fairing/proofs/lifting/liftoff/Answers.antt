use Rattle.rkt_fairing.proofs.Chains.{lifts_back, lifts_kept, lifts_others}
use Rattle.rkt_fairing.proofs.lifting.liftoff.Goals as goal

pub returns-clause-others : goal.returns-clause-others
returns-clause-others g c = lifts_others g.P.LiftoffCallback.calling c.args.view.now 0 (record { fairings = c.args.fairings.now; shutdown = c.args.shutdown.now }) (record { fairings = c.lift_all.new.fairings; shutdown = c.lift_all.new.shutdown }) c.lift_all.new.calls.items c.lift_all.ensures.chain

pub returns-clause-kept : goal.returns-clause-kept
returns-clause-kept g c = lifts_kept g.P.LiftoffCallback.calling c.args.view.now 0 (record { fairings = c.args.fairings.now; shutdown = c.args.shutdown.now }) (record { fairings = c.lift_all.new.fairings; shutdown = c.lift_all.new.shutdown }) c.lift_all.new.calls.items c.lift_all.ensures.chain

pub returns-clause-hands_back : goal.returns-clause-hands_back
returns-clause-hands_back g c = lifts_back g.P.LiftoffCallback.calling c.args.view.now 0 (record { fairings = c.args.fairings.now; shutdown = c.args.shutdown.now }) (record { fairings = c.lift_all.new.fairings; shutdown = c.lift_all.new.shutdown }) c.lift_all.new.calls.items c.lift_all.ensures.chain
