-- The state that a turn has.
use Rattle.rkt_turn.specs.declared.turn.Turn.{Turn}

module _ {S : Type 0} where
  abbrev pub state_of : Turn S → S
  state_of turn = turn.state

  -- a turn, after this state was written through `state`
  abbrev pub with_state : Turn S → S → Turn S
  with_state turn x = record turn { state = x }
