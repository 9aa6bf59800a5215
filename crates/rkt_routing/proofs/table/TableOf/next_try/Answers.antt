use Rattle.rkt_routing.proofs.table.TableOf.next_try.Goals as goal

pub returns-clause-falls : goal.returns-clause-falls
returns-clause-falls g c = rw (← c.self.view_is) c.next_try.ensures.falls
