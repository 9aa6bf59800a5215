-- What a run records of a fairing's call.
use Rattle.rkt_router.specs.declared.turn.Final.{Final}
use Rattle.rkt_router.specs.declared.turn.Final.TheVariants as final
use Rattle.rkt_routing.specs.declared.run.Answer.{Answer}
use Rattle.rkt_routing.specs.declared.run.Answer.TheVariants as answer

-- one that was starved is not recorded
abbrev pub fairing_answer : Final (Unit {0}) → Answer
fairing_answer (final.Done done) = answer.Done
fairing_answer final.FailedTurn = answer.FailedTurn
fairing_answer final.Starved = answer.FailedTurn
