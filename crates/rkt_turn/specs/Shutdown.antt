-- What contracts see of a handle.
use Rattle.rkt_base.specs.declared.poll.Poll.{Poll}
use Rattle.rkt_base.specs.declared.poll.Poll.TheVariants.{Ready, Pending}
use Rattle.std.specs.Prelude.{zero, suc, ℕ}
use Rattle.atomic_table.specs.Seated.{TableId}

pub record Handle : Type 0 where
  -- which wire it is a handle of
  pub wire : TableId
  -- the word that it has seen, or 0
  pub seen : ℕ
  -- how many loads it made to look for a word
  pub looked : ℕ

-- a handle that has not looked at its wire
abbrev pub fresh : TableId → Handle
fresh wire = record { wire = wire; seen = 0; looked = 0 }

-- ready where a word was seen
abbrev pub polled : ℕ → Poll (Unit {0})
polled zero = Pending
polled (suc n) = Ready tt
