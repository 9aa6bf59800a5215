-- What a listener means, and what its calls do.
use Rattle.std.specs.Prelude.{◌≡◌, ◌++◌, ℕ, List, [], ◌∷◌, Bool, true, false, Option, Some, None}
use Rattle.std.specs.Option.{ForSome}
use Rattle.rkt_base.specs.Counts.{Rose}
use Rattle.rkt_base.specs.declared.poll.Poll.{Poll}
use Rattle.rkt_base.specs.declared.poll.Poll.TheVariants.{Ready, Pending}
use Rattle.rkt_source.specs.Cancel.{Cancellable}
use Rattle.rkt_source.specs.declared.stage.Stage.TheVariants.{Active}
use Rattle.rkt_link.specs.Asked.{Asked}
use Rattle.rkt_link.specs.Link.{LinkMeaning, IsFreshLink}
use Rattle.rkt_link.specs.declared.listener.Accepted.{Accepted}
use Rattle.rkt_link.specs.declared.listener.Accepted.TheVariants.{Given, End, Fault}

pub record ListenerMeaning : Type 0 where
  -- what the links that it has given ask, in order, where it tells that
  pub given : Option (List Asked)
  -- what all the links ask that it will ever give, where it tells that
  pub offers : Option (List Asked)
  -- it has ended
  pub ended : Bool
  -- how often it has failed
  pub faults : ℕ
  -- it says that it never fails
  pub never_faults : Bool

-- nothing was given, it has not ended, and nothing has failed
pub record IsFresh (listener : ListenerMeaning) : Type 0 where
  pub none_given : ForSome listener.given (λ given. given ≡ [])
  pub goes_on : listener.ended ≡ false
  pub no_fault : listener.faults ≡ 0

-- where it is told what was given, this stands behind it
abbrev pub GivesMore : Option (List Asked) → Option Asked → Option (List Asked) → Type 0
GivesMore None asked new = new ≡ None
GivesMore (Some old) asked new = (a : Asked) × (asked ≡ Some a) × (new ≡ Some (old ++ a ∷ []))

-- a link that is given puts what it asks behind what was given before
abbrev pub Gives : {K : Type 0} → (K → LinkMeaning) → Option (List Asked) → Poll (Accepted K) → Option (List Asked) → Type 0
Gives meaning old (Ready (Given link)) new = GivesMore old (meaning link).asked new
Gives meaning old (Ready End) new = new ≡ old
Gives meaning old (Ready Fault) new = new ≡ old
Gives meaning old Pending new = new ≡ old

-- a link is given as nobody has used it
abbrev pub GivesFresh : {K : Type 0} → (K → LinkMeaning) → Poll (Accepted K) → Type 0
GivesFresh meaning (Ready (Given link)) = IsFreshLink (meaning link)
GivesFresh meaning (Ready End) = Unit {0}
GivesFresh meaning (Ready Fault) = Unit {0}
GivesFresh meaning Pending = Unit {0}

-- it has ended from the first End on, and then answers nothing else
abbrev pub EndsAs : {K : Type 0} → Bool → Poll (Accepted K) → Bool → Type 0
EndsAs old (Ready (Given link)) new = (old ≡ false) × (new ≡ false)
EndsAs old (Ready End) new = new ≡ true
EndsAs old (Ready Fault) new = (old ≡ false) × (new ≡ false)
EndsAs old Pending new = (old ≡ false) × (new ≡ false)

-- the end comes only where all was given that it offers
abbrev pub EndsAt : {K : Type 0} → ListenerMeaning → Poll (Accepted K) → Type 0
EndsAt listener (Ready End) = ForSome listener.offers (λ all. listener.given ≡ Some all)
EndsAt listener (Ready (Given link)) = Unit {0}
EndsAt listener (Ready Fault) = Unit {0}
EndsAt listener Pending = Unit {0}

-- a fault comes where the count rose, of a listener that does not say that it never fails
abbrev pub Faulted : ListenerMeaning → ListenerMeaning → Type 0
Faulted old new = Rose old.faults new.faults × (old.never_faults ≡ false)

-- a fault is counted, and nothing else is
abbrev pub FaultsAs : {K : Type 0} → ListenerMeaning → Poll (Accepted K) → ListenerMeaning → Type 0
FaultsAs old (Ready Fault) new = Faulted old new
FaultsAs old (Ready (Given link)) new = new.faults ≡ old.faults
FaultsAs old (Ready End) new = new.faults ≡ old.faults
FaultsAs old Pending new = new.faults ≡ old.faults

-- what no call changes
pub record Settled (old new : ListenerMeaning) : Type 0 where
  pub offers : new.offers ≡ old.offers
  pub never_faults : new.never_faults ≡ old.never_faults

-- the same answer of a listener whose links can be cut off, with the link alone
abbrev pub bare : {K : Type 0} → Poll (Accepted (Cancellable K)) → Poll (Accepted K)
bare (Ready (Given link)) = Ready (Given link.io)
bare (Ready End) = Ready End
bare (Ready Fault) = Ready Fault
bare Pending = Pending

-- a link is given of which nothing is cut off
abbrev pub GivesActive : {K : Type 0} → Poll (Accepted (Cancellable K)) → Type 0
GivesActive (Ready (Given link)) = link.stage ≡ Active
GivesActive (Ready End) = Unit {0}
GivesActive (Ready Fault) = Unit {0}
GivesActive Pending = Unit {0}
