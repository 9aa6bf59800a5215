-- What a link means, and what its calls do.
use Rattle.std.specs.Prelude.{◌≡◌, ◌++◌, ℕ, List, [], ◌∷◌, Bool, true, false, Option, Result, Ok, Err, option_map}
use Rattle.std.specs.Option.{ForSome}
use Rattle.rkt_base.specs.declared.poll.Poll.{Poll}
use Rattle.rkt_base.specs.declared.poll.Poll.TheVariants.{Ready, Pending}
use Rattle.rkt_source.specs.Memory.{counted}
use Rattle.rkt_message.specs.declared.piece.Piece.{Piece}
use Rattle.rkt_link.specs.Asked.{Asked}
use Rattle.rkt_link.specs.declared.link.Delivery.{Delivery}
use Rattle.rkt_link.specs.declared.link.Delivery.TheVariants.{Taken, Back, Refused}
use Rattle.rkt_link.specs.declared.link.SendError.{SendError}
use Rattle.rkt_link.specs.declared.link.SendError.TheVariants.{Fault, NoMemory}

pub record LinkMeaning : Type 0 where
  -- what it asks, where it tells that
  pub asked : Option Asked
  -- the source of the body was taken
  pub source_taken : Bool
  -- the pieces that it has taken, where it tells them
  pub held : Option (List Piece)
  -- how often it has failed
  pub faults : ℕ
  -- it says that it never fails
  pub never_faults : Bool

-- the same link, whose source was taken
abbrev pub with_source_taken : LinkMeaning → LinkMeaning
with_source_taken link = record link { source_taken = true }

-- the same link, with these pieces taken besides
abbrev pub with_taken : LinkMeaning → List Piece → LinkMeaning
with_taken link pieces = record link { held = option_map (λ held. held ++ pieces) link.held }

-- a fault is counted once, and changes nothing else; a link that says that it never fails has none
pub record Faults (old new : LinkMeaning) : Type 0 where
  pub only : new ≡ record old { faults = new.faults }
  pub once : new.faults ≡ counted old.faults
  pub may : old.never_faults ≡ false

-- what a piece that was not taken changes
abbrev pub AfterError : SendError → LinkMeaning → LinkMeaning → Type 0
AfterError Fault old new = Faults old new
AfterError NoMemory old new = new ≡ old

-- a link after a send: a piece that was taken is held, a fault is counted, and any other answer changes nothing
abbrev pub AfterSend : Poll (Result (Unit {0}) SendError) → LinkMeaning → Piece → LinkMeaning → Type 0
AfterSend (Ready (Ok taken)) old piece new = new ≡ with_taken old (piece ∷ [])
AfterSend (Ready (Err e)) old piece new = AfterError e old new
AfterSend Pending old piece new = new ≡ old

-- the same after a piece was handed over
abbrev pub AfterHand : Delivery → LinkMeaning → Piece → LinkMeaning → Type 0
AfterHand Taken old piece new = new ≡ with_taken old (piece ∷ [])
AfterHand (Back other) old piece new = new ≡ old
AfterHand (Refused e) old piece new = AfterError e old new

-- what comes back is that piece
abbrev pub ComesBack : Delivery → Piece → Type 0
ComesBack Taken piece = Unit {0}
ComesBack (Back other) piece = other ≡ piece
ComesBack (Refused e) piece = Unit {0}

-- nothing was taken and sent, and nothing has failed
pub record IsFreshLink (link : LinkMeaning) : Type 0 where
  pub source_there : link.source_taken ≡ false
  pub none_held : ForSome link.held (λ held. held ≡ [])
  pub no_fault : link.faults ≡ 0
