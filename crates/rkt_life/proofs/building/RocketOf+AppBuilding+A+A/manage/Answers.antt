use Rattle.rkt_life.proofs.building.RocketOf+AppBuilding+A+A.manage.Goals as goal

pub returns-in-Err-clause-duplicate : goal.returns-in-Err-clause-duplicate
returns-in-Err-clause-duplicate g c = rw (← c.self.view_is) c.in-Err.ensures.duplicate
