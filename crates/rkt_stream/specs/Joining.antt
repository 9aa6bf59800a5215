-- What a source means that joins the bytes of a stream's items.
use Rattle.std.specs.List.{flat_map}
use Rattle.std.specs.Option.{ForSome}
use Rattle.std.specs.Prelude.{◌≡◌, ℕ, ◌+◌, ◌<◌, ◌≤◌, ◌++◌, Bool, true, false, nat_eq, List, [], length, drop, min, Option, None, Some, option_map, Result, Ok, Vec}
use Rattle.std.specs.declared.alloc.Global.{Global}
use Rattle.rkt_base.specs.declared.poll.Poll.{Poll}
use Rattle.rkt_base.specs.declared.poll.Poll.TheVariants.{Ready, Pending}
use Rattle.rkt_stream.specs.Flow.{Flow, Waited, AsksOn}
use Rattle.rkt_source.specs.Source.{Meaning, Polled}
use Rattle.rkt_source.specs.declared.source.Gate.{Gate}
use Rattle.rkt_source.specs.declared.source.SourceError.{SourceError}

pub record Joining (T : Type 0) : Type 0 where
  -- the stream as it is now, and as it was handed in, where there is one
  pub stream : Option T
  pub begun : Option T
  -- the bytes of the last item that were not given yet
  pub piece : List ℕ
  -- how many bytes were given
  pub taken : ℕ

-- the bytes of the items that a stream still gives, joined
abbrev pub joined : Flow (Vec ℕ Global) → Option (List ℕ)
joined m = option_map (flat_map (λ v. v.items)) m.rest

-- there are none where there is no stream
abbrev pub joined_of : {T : Type 0} → (T → Flow (Vec ℕ Global)) → Option T → Option (List ℕ)
joined_of flow None = Some []
joined_of flow (Some t) = joined (flow t)

abbrev pub pended_of : {T : Type 0} → (T → Flow (Vec ℕ Global)) → Option T → ℕ
pended_of flow None = 0
pended_of flow (Some t) = min (flow t).pended (flow t).pendings

abbrev pub pendings_of : {T : Type 0} → (T → Flow (Vec ℕ Global)) → Option T → ℕ
pendings_of flow None = 0
pendings_of flow (Some t) = (flow t).pendings

-- it never fails, and no trip changes it; only the stream may be Pending
abbrev pub joining_meaning : {T : Type 0} → (T → Flow (Vec ℕ Global)) → Joining T → Meaning
joining_meaning flow j = record {
  whole = joined_of flow j.begun;
  taken = j.taken;
  faults = 0;
  never_faults = true;
  warned = false;
  shut = false;
  pended = pended_of flow j.stream;
  pendings = pendings_of flow j.stream;
}

-- all bytes are those given, those of the piece, and those of the items to come
pub record Parts (whole : List ℕ) (taken : ℕ) (piece : List ℕ) (ahead : Option (List ℕ)) : Type 0 where
  pub given : List ℕ
  pub to_come : List ℕ
  pub told : ahead ≡ Some to_come
  pub parts : whole ≡ given ++ (piece ++ to_come)
  pub count : length given ≡ taken

abbrev pub IsJoining : {T : Type 0} → (T → Flow (Vec ℕ Global)) → Option T → Option T → List ℕ → ℕ → Type 0
IsJoining flow begun stream piece taken = ForSome (joined_of flow begun) (λ w. Parts w taken piece (joined_of flow stream))

-- the next item that is not empty, behind items that are
abbrev pub NextBytes : Flow (Vec ℕ Global) → Flow (Vec ℕ Global) → Poll (Option (Vec ℕ Global)) → Type 0
NextBytes m n Pending = (n.pendings ≡ m.pendings) × (joined n ≡ joined m) × (m.pended < n.pended) × (n.pended ≤ m.pendings)
NextBytes m n (Ready None) = Waited m n × (joined n ≡ joined m) × ForSome (joined m) (λ w. w ≡ [])
NextBytes m n (Ready (Some v)) =
    Waited m n
    × (0 < length v.items)
    × ForSome (joined m) (λ w. (to_come : List ℕ) × (w ≡ v.items ++ to_come) × (joined n ≡ Some to_come))

-- the last item has bytes left, or all bytes were given; else the stream was Pending
abbrev pub Fills : {T : Type 0} → (T → Flow (Vec ℕ Global)) → Joining T → Joining T → Poll (Unit {0}) → Type 0
Fills flow a b Pending =
    (pended_of flow a.stream < pended_of flow b.stream) × (pended_of flow b.stream ≤ pendings_of flow a.stream)
Fills flow a b (Ready r) = (length b.piece ≡ 0 → ForSome (joined_of flow b.begun) (λ w. b.taken ≡ length w))

-- an item without bytes
abbrev pub IsEmpty : Vec ℕ Global → Type 0
IsEmpty item = item.items ≡ []

-- what a stream has answered becomes the piece: the bytes of its item, of which there are some, or none
abbrev pub FillsWith : Poll (Option (Vec ℕ Global)) → List ℕ → Poll (Unit {0}) → Type 0
FillsWith Pending piece filled = (piece ≡ []) × (filled ≡ Pending)
FillsWith (Ready None) piece filled = (piece ≡ []) × (filled ≡ Ready tt)
FillsWith (Ready (Some item)) piece filled = (piece ≡ item.items) × (0 < length piece) × (filled ≡ Ready tt)

module _ {T : Type 0} (polled : T → Gate → Poll (Option (Vec ℕ Global)) → T → Type 0) (gate : Gate) where
  -- where the piece is used up the stream, if there is one, is asked under this Gate for an item that has bytes
  abbrev pub FillsUp : Bool → Option T → Joining T → Poll (Unit {0}) → Joining T → Type 0
  FillsUp false stream a filled b = (b ≡ a) × (filled ≡ Ready tt)
  FillsUp true None a filled b = (b ≡ a) × (filled ≡ Ready tt)
  FillsUp true (Some t) a filled b =
      (answer : Poll (Option (Vec ℕ Global))) × (u : T)
      × AsksOn polled IsEmpty gate t answer u
      × (b ≡ record a { stream = Some u; piece = b.piece })
      × FillsWith answer b.piece filled

-- the next bytes of the piece are given, as many as there is room for
abbrev pub GivesPiece : {T : Type 0} → ℕ → Joining T → Poll (Unit {0}) → Poll (Result ℕ SourceError) → Joining T → Type 0
GivesPiece room a Pending answer b = (b ≡ a) × (answer ≡ Pending)
GivesPiece room a (Ready filled) answer b =
    let count = min room (length a.piece) in
    (b ≡ record a { piece = drop count a.piece; taken = a.taken + count }) × (answer ≡ Ready (Ok count))

-- a read with this much room: bytes of the piece, and where it is used up of the stream's next item that has some
abbrev pub ReadsJoined : {T : Type 0} → (T → Gate → Poll (Option (Vec ℕ Global)) → T → Type 0) → Polled (Joining T)
ReadsJoined {T} polled a gate room answer b = (m : Joining T) × (filled : Poll (Unit {0}))
    × FillsUp polled gate (nat_eq (length a.piece) 0) a.stream a filled m × GivesPiece room m filled answer b

-- what no step of a read changes
pub record SameJoining {T : Type 0} (flow : T → Flow (Vec ℕ Global)) (a b : Joining T) : Type 0 where
  pub begun : b.begun ≡ a.begun
  pub pendings : pendings_of flow b.stream ≡ pendings_of flow a.stream
  pub pended : pended_of flow a.stream ≤ pended_of flow b.stream
