use Rattle.rkt_http.proofs.Outcomes.{maps_nothing, maps_in_turn, goes_on_from_success, goes_on_with_success, goes_on_in_turn}
use Rattle.rkt_http.proofs.outcome.laws.outcome_laws.Goals as goal

pub returns-clause-map_identity : goal.returns-clause-map_identity
returns-clause-map_identity g c = maps_nothing

pub returns-clause-map_composition : goal.returns-clause-map_composition
returns-clause-map_composition g c = maps_in_turn

pub returns-clause-left_unit : goal.returns-clause-left_unit
returns-clause-left_unit g c = goes_on_from_success

pub returns-clause-right_unit : goal.returns-clause-right_unit
returns-clause-right_unit g c = goes_on_with_success

pub returns-clause-associative : goal.returns-clause-associative
returns-clause-associative g c = goes_on_in_turn
