use Rattle.rkt_routing.proofs.catching.catch_turned.Goals as goal

pub returns-in-Pending-clause-gives : goal.returns-in-Pending-clause-gives
returns-in-Pending-clause-gives g c = λ rule first turned. rw c.in-Pending.is at turned

pub returns-in-Over-clause-gives : goal.returns-in-Over-clause-gives
returns-in-Over-clause-gives g c = λ rule first turned. c.catch_over.ensures.gives rule first (rw c.in-Over.is at turned)
