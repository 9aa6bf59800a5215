-- What is known of the wire's handle while a request is answered.
use Rattle.std.specs.Prelude.{◌≡◌, ◌<◌, List}
use Rattle.std.specs.List.{All}
use Rattle.rkt_turn.specs.HandsBack.{HandsBack}
use Rattle.rkt_turn.specs.Shutdown.{Handle}
use Rattle.rkt_routing.specs.declared.run.Call.{Call}

-- the word that a call recorded, if any, is the one that the handle has seen
abbrev pub Sees : Handle → Call → Type 0
Sees handle call = 0 < call.word → handle.seen ≡ call.word

-- it is a handle of the same wire that has forgotten nothing, and each word that was recorded is the one that it has seen
pub record Backs (first now : Handle) (calls : List Call) : Type 0 where
  pub hands_back : HandsBack first now
  pub words : All (Sees now) calls
