-- What is known of a launch that is over.
use Rattle.std.specs.Prelude.{◌≡◌, ◌++◌, ℕ, List, ◌∷◌, Option, Some, length, slice_get}
use Rattle.std.specs.Option.{ForSome}
use Rattle.rkt_link.specs.Asked.{Asked}
use Rattle.rkt_link.specs.Link.{LinkMeaning}
use Rattle.rkt_board.specs.Events.{admitted, end_of}
use Rattle.rkt_board.specs.declared.history.EntryOf.{EntryOf}
use Rattle.rkt_board.specs.declared.history.EventOf.{EventOf}
use Rattle.rkt_board.specs.declared.history.EventOf.TheVariants.{End}

module _ {C S K : Type 0} where
  -- as many were admitted as were given
  abbrev pub AllAdmitted : Option (List Asked) → List (EventOf C S K) → Type 0
  AllAdmitted given events = ForSome given (λ asks. admitted events ≡ length asks)

  -- the number k has an entry with its cause, and its link asks what was given as the k-th
  pub record HasCausedEntry (links : K → LinkMeaning) (cause : List (EventOf C S K) → EventOf C S K → Type 0)
      (given : Option (List Asked)) (events : List (EventOf C S K)) (k : ℕ) : Type 0 where
    pub before : List (EventOf C S K)
    pub entry : EntryOf C S K
    pub moment : ℕ
    pub by : ℕ
    pub rest : List (EventOf C S K)
    pub stands : events ≡ before ++ End k entry moment by ∷ rest
    pub found : end_of k events ≡ Some entry
    pub caused : cause before (End k entry moment by)
    pub asks : ForSome given (λ asks. (links entry.link.io).asked ≡ slice_get asks k)
