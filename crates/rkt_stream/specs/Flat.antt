-- What a source means that joins the bytes of the sources that a stream gives.
use Rattle.std.specs.List.{sum_by}
use Rattle.std.specs.Option.{ForSome}
use Rattle.std.specs.Prelude.{◌≡◌, ◌≢◌, ℕ, ◌+◌, ◌-◌, ◌*◌, ◌<◌, ◌≤◌, ◌⊎◌, ◌||◌, ◌++◌, Bool, false, IsTrue, List, [], ◌∷◌, length, take, drop, Option, None, Some, IsSome, Result, Ok, Err}
use Rattle.rkt_base.specs.Poll.{IfReadyErr}
use Rattle.rkt_base.specs.declared.poll.Poll.{Poll}
use Rattle.rkt_base.specs.declared.poll.Poll.TheVariants.{Ready, Pending}
use Rattle.rkt_stream.specs.Flow.{Flow}
use Rattle.rkt_source.specs.Source.{Meaning, Polled, Errs, left_of, both}
use Rattle.rkt_source.specs.declared.source.Gate.{Gate}
use Rattle.rkt_source.specs.declared.source.SourceError.{SourceError}
use Rattle.rkt_source.specs.declared.source.SourceError.TheVariants.{SourceFault, Gone, TimedOut}

-- a source that was never shown a trip
abbrev pub IsFresh : Meaning → Type 0
IsFresh m = (m.warned ≡ false) × (m.shut ≡ false)

-- a stream of sources, and the source that is read
pub record Running (S I : Type 0) : Type 0 where
  pub stream : S
  pub item : Option I

pub record Flat (S I : Type 0) : Type 0 where
  -- as it is now
  pub running : Running S I
  -- the stream as it was handed in
  pub begun : S
  -- how many bytes were given, and how many faults passed on
  pub taken : ℕ
  pub faults : ℕ
  -- a Gate with a trip was shown to it
  pub warned : Bool
  -- it has passed on that a source is shut
  pub refused : Bool

module _ {I : Type 0} (meaning : I → Meaning) where
  -- the bytes that sources have still to give, one after another
  abbrev pub all_left : List I → Option (List ℕ)
  all_left [] = Some []
  all_left (x ∷ xs) = both (left_of (meaning x)) (all_left xs)

  abbrev pub told_left : Option (List I) → Option (List ℕ)
  told_left None = None
  told_left (Some xs) = all_left xs

  abbrev pub item_left : Option I → Option (List ℕ)
  item_left None = Some []
  item_left (Some x) = left_of (meaning x)

  -- how often a source may still be Pending
  abbrev pub item_waits : Option I → ℕ
  item_waits None = 0
  item_waits (Some x) = (meaning x).pendings - (meaning x).pended

  -- how often sources to come may be Pending: where they are not told, each of `left` at most as often as this
  abbrev pub told_waits : ℕ → ℕ → Option (List I) → ℕ
  told_waits left each None = left * each
  told_waits left each (Some xs) = sum_by (λ x. (meaning x).pendings) xs

  abbrev pub IsWarned : Option I → Type 0
  IsWarned None = ⊥
  IsWarned (Some x) = IsTrue (meaning x).warned

module _ {S I : Type 0} (flow : S → Flow I) (meaning : I → Meaning) where
  -- the bytes that are left: those of the source that is read, and those of the sources to come
  abbrev pub bytes_left : Running S I → Option (List ℕ)
  bytes_left r = both (item_left meaning r.item) (told_left meaning (flow r.stream).rest)

  -- how often a stream, or a source that it gives, may still be Pending
  abbrev pub stream_waits : S → ℕ
  stream_waits s = (flow s).pendings - (flow s).pended + told_waits meaning (flow s).left (flow s).pendings (flow s).rest

  abbrev pub waits_left : Running S I → ℕ
  waits_left r = stream_waits r.stream + item_waits meaning r.item

  -- its bytes are those of the stream that was handed in; of the Pendings that this one allowed, some are left
  abbrev pub flat_meaning : Flat S I → Meaning
  flat_meaning f = record {
    whole = told_left meaning (flow f.begun).rest;
    taken = f.taken;
    faults = f.faults;
    never_faults = false;
    warned = f.warned || f.refused;
    shut = f.refused;
    pended = stream_waits f.begun - waits_left f.running;
    pendings = stream_waits f.begun;
  }

  module _ (may_give : S → I → Type 0) where
    -- each source is given fresh, and where the stream tells none, none is Pending more often than the stream
    abbrev pub GivesFresh : S → Type 0
    GivesFresh s =
        (x : I) → may_give s x → IsFresh (meaning x) × ((flow s).rest ≡ None → (meaning x).pendings ≤ (flow s).pendings)

    -- all bytes are those given and those left; a source that was warned was so in a read of this one
    pub record IsFlat (f : Flat S I) : Type 0 where
      pub bytes : ForSome (told_left meaning (flow f.begun).rest) (λ w. (given : List ℕ) × (rest : List ℕ)
          × (bytes_left f.running ≡ Some rest)
          × (w ≡ given ++ rest)
          × (length given ≡ f.taken))
      pub waits : waits_left f.running ≤ stream_waits f.begun
      pub fresh : GivesFresh f.running.stream
      pub warned : IsWarned meaning f.running.item → IsTrue f.warned

    -- what no step of a read under a Gate with this trip changes
    pub record Goes (trip : Option ℕ) (a b : Running S I) : Type 0 where
      pub waits : waits_left b ≤ waits_left a
      pub fresh : GivesFresh b.stream
      pub warned : IsWarned meaning b.item → IsWarned meaning a.item ⊎ IsSome trip

    -- so far nothing was given
    pub record Moves (trip : Option ℕ) (a b : Running S I) : Type 0 where
      pub goes : Goes trip a b
      pub bytes : ForSome (bytes_left a) (λ r. bytes_left b ≡ Some r)

  -- what a read answers, into a buffer that held `old` and holds `new`
  abbrev pub Advances : Running S I → Running S I → List ℕ → List ℕ → Poll (Result ℕ SourceError) → Type 0
  Advances a b old new Pending = ForSome (bytes_left a) (λ r. bytes_left b ≡ Some r) × (waits_left b < waits_left a)
  Advances a b old new (Ready (Ok k)) =
      (k ≤ length old)
      × ForSome (bytes_left a) (λ r.
      (take k new ≡ take k r) × (k ≤ length r) × (bytes_left b ≡ Some (drop k r)) × (k ≡ 0 → r ≡ []))
  Advances a b old new (Ready (Err e)) = ForSome (bytes_left a) (λ r. bytes_left b ≡ Some r)

-- the source that is read now is the one before or one that the stream gave, read once under this Gate with this room
-- and answer
abbrev pub ReadsItem : {S I : Type 0} → Polled I → (S → I → Type 0) → Gate → ℕ → Poll (Result ℕ SourceError) → Running S I
    → Option I
    → Type 0
ReadsItem polled may_give gate room answer a item =
    ForSome item (λ y. (x : _) × ((a.item ≡ Some x) ⊎ may_give a.stream x) × polled x gate room answer y)

-- the source that is read now has refused a read under this Gate with this error
abbrev pub Refuses : {I : Type 0} → (I → Meaning) → Polled I → Gate → ℕ → Option I → SourceError → Type 0
Refuses meaning polled gate room item e =
    (x : _) × (y : _) × (item ≡ Some y) × polled x gate room (Ready (Err e)) y × Errs e (meaning x) (meaning y)

-- steps of a read with this room that has given nothing yet: the source that is read has answered that it is at its end, and is
-- let go, or the stream has given the next one
pub data Passed {S I : Type 0} (asked : S → Gate → Poll (Option I) → S → Type 0) (polled : Polled I) (gate : Gate) (room : ℕ)
    : Running S I → Running S I → Type 0 where
  none : {a : Running S I} → Passed asked polled gate room a a
  ended : {a : Running S I} {s : S} {x y : I} → Passed asked polled gate room a (record { stream = s; item = Some x })
      → polled x gate room (Ready (Ok 0)) y → Passed asked polled gate room a (record { stream = s; item = None })
  given : {a : Running S I} {s t : S} {x : I} → Passed asked polled gate room a (record { stream = s; item = None })
      → asked s gate (Ready (Some x)) t → Passed asked polled gate room a (record { stream = t; item = Some x })

module _ {S I : Type 0} (asked : S → Gate → Poll (Option I) → S → Type 0) (polled : Polled I) (gate : Gate) (room : ℕ) where
  -- the stream has no source more, or was Pending
  abbrev pub StreamSays : S → Poll (Result ℕ SourceError) → S → Type 0
  StreamSays s Pending t = asked s gate Pending t
  StreamSays s (Ready (Ok n)) t = (n ≡ 0) × asked s gate (Ready None) t
  StreamSays s (Ready (Err e)) t = ⊥

  -- the last step: the source that is read answers so, and is not at its end, or without one the stream
  abbrev pub LastOf : S → Option I → Poll (Result ℕ SourceError) → Running S I → Type 0
  LastOf s (Some x) answer b =
      (y : I) × (b ≡ record { stream = s; item = Some y }) × polled x gate room answer y × (answer ≢ Ready (Ok 0))
  LastOf s None answer b = (t : S) × (b ≡ record { stream = t; item = None }) × StreamSays s answer t

  -- the sources are read one after another, each but the last to its end
  abbrev pub ReadsInTurn : Running S I → Poll (Result ℕ SourceError) → Running S I → Type 0
  ReadsInTurn a answer b = (m : Running S I) × Passed asked polled gate room a m × LastOf m.stream m.item answer b

-- one read under this Gate, which the stream is shown too: an error is that of the source that is read; a fault is counted, and
-- that a source is shut is kept, only where that source refused
pub record ReadsFlat {S I : Type 0} (meaning : I → Meaning) (asked : S → Gate → Poll (Option I) → S → Type 0)
    (polled : Polled I) (may_give : S → I → Type 0) (a : Flat S I) (gate : Gate) (room : ℕ)
    (answer : Poll (Result ℕ SourceError)) (b : Flat S I) : Type 0 where
  pub in_turn : ReadsInTurn asked polled gate room a.running answer b.running
  pub item : ReadsItem polled may_give gate room answer a.running b.running.item
  pub refuses : IfReadyErr answer (Refuses meaning polled gate room b.running.item)
  pub faults : (b.faults ≡ a.faults) ⊎ ((b.faults ≡ a.faults + 1) × Refuses meaning polled gate room b.running.item SourceFault)
  pub refused : (b.refused ≡ a.refused)
      ⊎ (Refuses meaning polled gate room b.running.item Gone ⊎ Refuses meaning polled gate room b.running.item TimedOut)

-- the source that is read is shut down, where there is one
abbrev pub ShutsItem : {S I : Type 0} → (I → Poll (Unit {0}) → I → Type 0) → Option I → Flat S I → Poll (Unit {0}) → Flat S I
    → Type 0
ShutsItem shuts None a answer b = (b ≡ a) × (answer ≡ Ready tt)
ShutsItem shuts (Some x) a answer b =
    (y : _) × shuts x answer y × (b ≡ record a { running = record { stream = a.running.stream; item = Some y } })
