-- What is known of a response while it is sent.
use Rattle.std.specs.Prelude.{◌≡◌, ◌≢◌, ◌++◌, false, List, [], ◌∷◌}
use Rattle.rkt_source.specs.Source.{Meaning}
use Rattle.rkt_message.specs.Sending.{IsFront, ReadOn, Sending, is_end}
use Rattle.rkt_message.specs.Sent.{Sent}
use Rattle.rkt_message.specs.declared.piece.Piece.{Piece}
use Rattle.rkt_worker.specs.Sent.{IsProperFront}

-- a state gave a piece, after none or some polls that were Pending
pub record Advances {S : Type 0} (stream : S → Meaning) (s : Sending S) (piece : Piece) (t : Sending S) : Type 0 where
  pub given : t.given ≡ s.given ++ piece ∷ []
  pub over : t.is_over ≡ is_end piece
  pub front : IsFront stream t

-- these pieces were taken of a response that was begun as `first`, and it goes on
pub record PartlySent {S : Type 0} (stream : S → Meaning) (first now : Sending S) (taken : List Piece) : Type 0 where
  pub begun : now.begun ≡ first.begun
  pub turns : now.turns ≡ first.turns
  pub going : now.is_over ≡ false
  pub given : now.given ≡ taken
  pub at_head : now.given ≡ [] → taken ≡ []
  pub head_sent : now.given ≢ [] → taken ≢ []
  pub read_on : now.given ≢ [] → ReadOn stream now.begun now.response
  pub front : now.given ≢ [] → IsProperFront (Sent stream first.begun) taken
