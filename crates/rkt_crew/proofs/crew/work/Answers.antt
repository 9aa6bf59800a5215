use Rattle.std.proofs.Common.{rules, ◌∙◌, ◌<◌, length}
use Rattle.rkt_crew.proofs.Crews.{crew_of}
use Rattle.rkt_crew.proofs.crew.work.Goals as goal

pub returns-clause-crew : goal.returns-clause-crew
returns-clause-crew g c =
    let some : 0 < length c.work_all.new.posts.items = search rules in
    crew_of _ (g.J.Job.done c.args.job.now) _ c.gather.new.handle c.args.count c.work_all.new.posts.items _ _
    c.gather.ensures.back (c.hire-posts.ensures.back ∙ c.requires.alone.1) some c.work_all.ensures.over c.gather.ensures.words
