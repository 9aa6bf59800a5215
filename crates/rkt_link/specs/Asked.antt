-- What a link asks.
use Rattle.std.specs.Prelude.{◌≡◌, ℕ, false, List, Bool, Option}
use Rattle.rkt_source.specs.Source.{Meaning}
use Rattle.rkt_request.specs.declared.head.Head.{Head}

pub record Asked : Type 0 where
  -- the head of the request
  pub head : Head
  -- the bytes of its body, where the source tells them
  pub body : Option (List ℕ)
  -- the source of the body says that it never fails
  pub body_never_faults : Bool
  -- the link says that it never fails
  pub never_faults : Bool

-- a source of which nothing was taken, and which is neither warned nor shut
pub record IsUntouched (source : Meaning) : Type 0 where
  pub none_taken : source.taken ≡ 0
  pub unwarned : source.warned ≡ false
  pub goes_on : source.shut ≡ false

-- it gives the body that is asked
pub record GivesBody (asked : Asked) (source : Meaning) : Type 0 where
  pub whole : source.whole ≡ asked.body
  pub never_faults : source.never_faults ≡ asked.body_never_faults
