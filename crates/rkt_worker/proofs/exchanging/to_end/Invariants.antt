use Rattle.std.specs.Prelude.{◌≡◌, ℕ, Some, IsSome}
use Rattle.rkt_source.specs.Cancel.{Cancellable}
use Rattle.rkt_data.specs.Body.{Body}
use Rattle.rkt_exchange.specs.Relations.{relations_of}
use Rattle.rkt_exchange.specs.Invariant.{InvariantFor}
use Rattle.rkt_router.specs.Calls.{GateRule}
use Rattle.rkt_routing.specs.Beginning.{Beginning}
use Rattle.rkt_worker.specs.Begun.{AllFit}
use Rattle.rkt_worker.specs.Gates.{told, word_in}
use Rattle.rkt_worker.proofs.exchanging.to_end.Given as goal

abbrev pub invariant-loop : goal.invariant-loop
invariant-loop g l =
    (goal.iterator-loop g).can_next l.iterator' × (goal.iterator-loop g).is_finite l.iterator'
    × IsSome l.exchange.phase
    × (l.exchange.tables ≡ l.initial.exchange.tables)
    × g.G.Gates.keeps l.gates
    × g.G.Gates.leads l.initial.gates l.gates
    × ((rule : GateRule) (first : Beginning g.row.A-Value.Denot (Body (Cancellable g.row.A-Source.Denot)) g.row.A-Cached.Denot)
    → AllFit rule l.grace l.mercy (told (g.G.Gates.watched l.initial.gates)) (told (g.G.Gates.watched l.gates)) (word_in (g.G.Gates.watched l.gates).trip)
    → InvariantFor (relations_of g.A.Source.Source.meaning g.A-Fairing-Requests-RequestCallback.calling g.A.Fairing.Responses.ResponseCallback.calling g.A-Handler-Handler.calling g.A.Catch.CatchHandler.calling rule) first l.initial.exchange.tables l.initial.exchange.phase
    → InvariantFor (relations_of g.A.Source.Source.meaning g.A-Fairing-Requests-RequestCallback.calling g.A.Fairing.Responses.ResponseCallback.calling g.A-Handler-Handler.calling g.A.Catch.CatchHandler.calling rule) first l.exchange.tables l.exchange.phase)
    × ((trip : ℕ × ℕ) → l.trip ≡ Some trip → (g.G.Gates.watched l.gates).trip ≡ Some trip)
