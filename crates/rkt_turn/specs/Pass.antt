-- What a pass knows, and whose pass it is.
use Rattle.std.specs.Prelude.{◌≡◌, ℕ, true, false, []}
use Rattle.rkt_turn.specs.declared.known.Known.{Known}
use Rattle.rkt_turn.specs.declared.known.Returned.{Returned}
use Rattle.rkt_turn.specs.declared.pass.PassOf.{PassOf}
use Rattle.rkt_turn.specs.declared.turnstile.Turnstile.{Turnstile}
use Rattle.rkt_turn.specs.Known.{given_back}

module _ {S N E : Type 0} where
  abbrev pub known : PassOf S N E → Known N E
  known pass = pass.seat.me.0

  abbrev pub number_of : PassOf S N E → ℕ
  number_of pass = (known pass).number

  -- its number and its entries, as they come back when it is joined
  abbrev pub returned : PassOf S N E → Returned E
  returned pass = given_back (known pass)

  -- the turnstile made the pass
  abbrev pub IsPassOf : Turnstile S N E → PassOf S N E → Type 0
  IsPassOf lock pass = pass.seat.table_id ≡ lock.table.shared.table_id

  -- both are passes of one turnstile
  abbrev pub IsSameLock : PassOf S N E → PassOf S N E → Type 0
  IsSameLock p q = q.seat.table_id ≡ p.seat.table_id

  -- it has no turn, and the lock has its state
  abbrev pub IsIdle : PassOf S N E → Type 0
  IsIdle pass = ((known pass).turn ≡ false) × ((known pass).opened ≡ true)

  -- a pass of the turnstile that has entered nothing
  abbrev pub IsNew : Turnstile S N E → PassOf S N E → Type 0
  IsNew lock pass = IsPassOf lock pass × IsIdle pass × ((known pass).mine ≡ [])

  -- it is the pass that the turnstile was made with
  abbrev pub IsFirst : PassOf S N E → Type 0
  IsFirst pass = (known pass).number ≡ 0
