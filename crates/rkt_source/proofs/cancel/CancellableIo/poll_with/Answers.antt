use Rattle.std.proofs.Common.{◌≡◌, ◌∙◌, ap, inl, inr, rules, Some}
use Rattle.rkt_source.specs.Cancel.{advanced}
use Rattle.rkt_source.proofs.Cancels.{Runs-more, arrives_steps, step_in_grace}
use Rattle.rkt_source.proofs.cancel.CancellableIo.poll_with.Goals as goal

pub f-requires : goal.f-requires
f-requires g c = rw (ap (λ d. d.io) (c.self.view_is ∙ c.in-None.ensures.1)) (search rules)

pub returns-in-None-clause-grace : goal.returns-in-None-clause-grace
returns-in-None-clause-grace g c = λ saw e. step_in_grace c.args.gate c.args.self.now.stage c.self.inside.stage saw (inl (ap (λ d. d.stage) (c.self.view_is ∙ c.in-None.ensures.1))) e

pub returns-in-None-clause-machine : goal.returns-in-None-clause-machine
returns-in-None-clause-machine g c =
    let stage : c.self.inside.stage ≡ advanced c.args.gate c.args.self.now.stage = ap (λ d. d.stage) (c.self.view_is ∙ c.in-None.ensures.1) in
    let io : c.self.inside.io ≡ c.args.self.now.io = ap (λ d. d.io) (c.self.view_is ∙ c.in-None.ensures.1) in
    inl (c.in-None.ensures.0, stage, (c.f.result, rw (← io) (search rules), c.within.ensures))

pub returns-in-None-clause-runs : goal.returns-in-None-clause-runs
returns-in-None-clause-runs g c = λ gates h. Runs-more _ gates _ _ _ h (inl (ap (λ d. d.stage) (c.self.view_is ∙ c.in-None.ensures.1)))

pub returns-in-Some-clause-grace : goal.returns-in-Some-clause-grace
returns-in-Some-clause-grace g c = λ saw e. step_in_grace c.args.gate c.args.self.now.stage c.arrive.new.self.stage saw (arrives_steps g.I.Shut.shuts c.args.gate c.args.self.now c.arrive.new.self (Some c.in-Some.refusal) c.in-Some.ensures) e

pub returns-in-Some-clause-machine : goal.returns-in-Some-clause-machine
returns-in-Some-clause-machine g c = inr (c.in-Some.refusal, c.in-Some.ensures, c.withheld.ensures)

pub returns-in-Some-clause-runs : goal.returns-in-Some-clause-runs
returns-in-Some-clause-runs g c = λ gates h. Runs-more _ gates _ _ _ h (arrives_steps g.I.Shut.shuts c.args.gate c.args.self.now c.arrive.new.self (Some c.in-Some.refusal) c.in-Some.ensures)
