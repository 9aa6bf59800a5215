use Rattle.std.proofs.Common.{sym, ap, ◌∙◌, subst}
use Rattle.rkt_crew.specs.Crew.{IsPostNumber}
use Rattle.rkt_turn.specs.Pass.{number_of, returned}
use Rattle.rkt_crew.proofs.Crews.{one_number, done_of, crew_of_one}
use Rattle.rkt_crew.proofs.crew.work_alone.Goals as goal

pub returns-clause-crew : goal.returns-clause-crew
returns-clause-crew g c =
    let done = g.J.Job.done c.args.job.now in
    let pass = c.into_parts-pass.result.0 in
    let parts = c.into_parts-pass.ensures in
    let first = c.requires.alone.2 in
    let number = ap number_of parts.0 ∙ (c.work.ensures.place.1 ∙ (ap (λ v. v.number) c.split-pass.ensures.another ∙ first)) in
    crew_of_one done c.args.count c.into_parts-pass.result.1 (returned pass) _ _
    (ap (λ v. v.back) c.join.ensures.view)
    (ap (λ v. v.back) c.split-pass.ensures.view ∙ c.requires.alone.1)
    (subst (IsPostNumber c.args.count) (sym number) (one_number c.args.count))
    (done_of done (returned c.work.new.post.pass) (returned pass) c.work.new.post.handle c.into_parts-pass.result.1 (ap returned parts.0) parts.1 c.work.ensures.done)
