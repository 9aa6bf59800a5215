-- What the objects in memory keep, and what they mean.
use Rattle.std.specs.Prelude.{◌≡◌, ◌≤◌, ℕ, max, List, [], ◌∷◌, Bool, true, false, IfSome, Option, Some, length, map, nat_eq, take, drop}
use Rattle.std.proofs.Common.{ap, sym}
use Rattle.std.specs.List.{AllByRecursion}
use Rattle.std.specs.Option.{option_map_or}
use Rattle.rkt_message.specs.declared.piece.Piece.{Piece}
use Rattle.rkt_request.specs.declared.head.Head.{Head}
use Rattle.rkt_source.specs.Memory.{SourceInMemory}
use Rattle.rkt_link.specs.Asked.{Asked}
use Rattle.rkt_link.specs.Clock.{ClockMeaning}
use Rattle.rkt_link.specs.Link.{LinkMeaning}
use Rattle.rkt_link.specs.Listener.{ListenerMeaning}

pub record LinkInMemory : Type 0 where
  pub head : Head
  -- the bytes of the body
  pub body : List ℕ
  pub source_taken : Bool
  -- the pieces that it has taken
  pub held : List Piece
  -- the numbers of the sends that fail
  pub fails : List ℕ
  pub sends : ℕ
  pub faults : ℕ

-- where none is to fail, none does
abbrev pub never_fails : List ℕ → Bool
never_fails fails = nat_eq (length fails) 0

abbrev pub asked_of : LinkInMemory → Asked
asked_of link =
    record { head = link.head; body = Some link.body; body_never_faults = true; never_faults = never_fails link.fails }

-- a link in memory tells all
abbrev pub link_meaning : LinkInMemory → LinkMeaning
link_meaning link = record {
  asked = Some (asked_of link);
  source_taken = link.source_taken;
  held = Some link.held;
  faults = link.faults;
  never_faults = never_fails link.fails;
}

pub says_so : (link : LinkInMemory) (asked : Asked)
    → (link_meaning link).asked ≡ Some asked
    → asked.never_faults ≡ (link_meaning link).never_faults
says_so link asked told = ap (λ (o : Option Asked). option_map_or (λ a. a.never_faults) o true) (sym told)

-- nothing was taken from it and sent to it
pub record IsUnused (link : LinkInMemory) : Type 0 where
  pub source_there : link.source_taken ≡ false
  pub none_held : link.held ≡ []
  pub no_fault : link.faults ≡ 0

-- a source of the whole body, which gives all that it is asked for
abbrev pub whole_source : List ℕ → SourceInMemory
whole_source bytes = record { bytes = bytes; at = 0; chunk = max (length bytes) 1; fails = []; calls = 0; faults = 0 }

-- the source of the body stands by, untouched, until it is taken
abbrev pub StandsBy : Option SourceInMemory → List ℕ → Type 0
StandsBy source bytes = IfSome source (λ s. s ≡ whole_source bytes)

pub record ListenerInMemory : Type 0 where
  -- all its links, as they were at first
  pub offered : List LinkInMemory
  -- how many of them were given
  pub given : ℕ
  pub ended : Bool
  -- the numbers of the polls that are Pending
  pub pends : List ℕ
  -- the numbers of the polls that fail
  pub fails : List ℕ
  pub polls : ℕ
  pub faults : ℕ

-- a listener in memory tells all
abbrev pub listener_meaning : ListenerInMemory → ListenerMeaning
listener_meaning l = record {
  given = Some (map asked_of (take l.given l.offered));
  offers = Some (map asked_of l.offered);
  ended = l.ended;
  faults = l.faults;
  never_faults = never_fails l.fails;
}

-- the links that are left are those not yet given
pub record IsListenerInMemory (left offered : List LinkInMemory) (given : ℕ) (ended : Bool) : Type 0 where
  pub within : given ≤ length offered
  pub left_is : left ≡ drop given offered
  pub over : ended ≡ true → length offered ≤ given
  pub fresh : AllByRecursion IsUnused offered

pub record ClockInMemory : Type 0 where
  pub moments : List ℕ
  -- how many were told
  pub at : ℕ

-- the first, or 0
abbrev pub first : List ℕ → ℕ
first [] = 0
first (x ∷ xs) = x

-- the greatest, or 0
abbrev pub greatest : List ℕ → ℕ
greatest [] = 0
greatest (x ∷ xs) = max x (greatest xs)

-- the greatest moment so far, between the first and the greatest of all
abbrev pub clock_meaning : ClockInMemory → ClockMeaning
clock_meaning c = record { last = greatest (take c.at c.moments); window = Some (first c.moments, greatest c.moments) }

-- the place is within the list, and the greatest moment up to it is kept
pub record IsClockInMemory (moments : List ℕ) (at last : ℕ) : Type 0 where
  pub within : at ≤ length moments
  pub last_is : last ≡ greatest (take at moments)
