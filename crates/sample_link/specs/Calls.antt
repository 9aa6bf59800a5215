-- The calls of one end of a pipe, and what becomes of one call.
use Rattle.std.specs.Prelude.{◌≡◌, ℕ, ◌+◌, true, false, List, ◌∷◌, length}
use Rattle.std.specs.List.Sorted.{IsPermutation}
use Rattle.rkt_source.specs.Memory.{counted, is_listed}
use Rattle.sample_link.specs.declared.calls.Turn.{Turn}
use Rattle.sample_link.specs.declared.calls.Turn.TheVariants.{Waits, Fails, Goes}

pub record Counted : Type 0 where
  -- the numbers of the calls that are still to be Pending
  pub pends : List ℕ
  -- the numbers of the calls that fail
  pub fails : List ℕ
  -- the number of the next call
  pub next : ℕ
  -- how many were Pending
  pub pended : ℕ
  pub faults : ℕ

-- one of the places where the number stands is used up
pub record UsesUp (number : ℕ) (old new : List ℕ) : Type 0 where
  pub others : IsPermutation old (number ∷ new)
  pub fewer : length old ≡ length new + 1

-- a call is Pending where its number is listed so, else it fails where it is listed so, else it is made
abbrev pub Turns : Counted → Turn → Counted → Type 0
Turns old Waits new =
    UsesUp old.next old.pends new.pends
    × (new ≡ record old { pends = new.pends; next = counted old.next; pended = old.pended + 1 })
Turns old Fails new =
    (is_listed old.pends old.next ≡ false)
    × (is_listed old.fails old.next ≡ true)
    × (new ≡ record old { next = counted old.next; faults = counted old.faults })
Turns old Goes new =
    (is_listed old.pends old.next ≡ false)
    × (is_listed old.fails old.next ≡ false)
    × (new ≡ record old { next = counted old.next })
