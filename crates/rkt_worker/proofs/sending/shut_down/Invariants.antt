use Rattle.std.proofs.Common.{◌≡◌, ℕ}
use Rattle.rkt_source.specs.declared.stage.Stage.TheVariants.{Mercy}
use Rattle.rkt_worker.proofs.sending.shut_down.Given as goal

-- it is past its grace still
abbrev pub invariant-loop : goal.invariant-loop
invariant-loop g l = (goal.iterator-loop g).can_next l.iterator' × (goal.iterator-loop g).is_finite l.iterator'
    × g.G.Gates.keeps l.gates
    × g.G.Gates.leads l.initial.gates l.gates
    × ((saw : ℕ) → (cut : ℕ) → l.initial.io.stage ≡ Mercy saw cut → (l.io.stage ≡ Mercy saw cut) × (g.K.Link.meaning l.io.io ≡ g.K.Link.meaning l.initial.io.io))
