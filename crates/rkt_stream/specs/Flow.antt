-- What a stream of items means, and what one poll of it may do.
use Rattle.std.specs.Option.{ForSome}
use Rattle.std.specs.Prelude.{◌≡◌, ℕ, ◌+◌, ◌<◌, ◌≤◌, ◌⊎◌, Bool, true, false, nat_eq, List, [], ◌∷◌, length, Option, None, Some, option_to_list}
use Rattle.rkt_base.specs.declared.poll.Poll.{Poll}
use Rattle.rkt_base.specs.declared.poll.Poll.TheVariants.{Ready, Pending}
use Rattle.rkt_source.specs.declared.source.Gate.{Gate}

pub record Flow (X : Type 0) : Type 0 where
  -- the items that it still gives, where it tells them
  pub rest : Option (List X)
  -- a bound on how many items it can still give
  pub left : ℕ
  -- it has answered None, and does so from then on
  pub ended : Bool
  -- how many of its polls were Pending, and a bound on that
  pub pended : ℕ
  pub pendings : ℕ

-- what is left once an item was given
abbrev pub Shifts : {X : Type 0} → Option (List X) → X → Option (List X) → Type 0
Shifts None x r = r ≡ None
Shifts (Some xs) x r = (ys : List _) × (xs ≡ x ∷ ys) × (r ≡ Some ys)

-- counts of Pendings grow within their bound
pub record Waited {X : Type 0} (m n : Flow X) : Type 0 where
  pub pendings : n.pendings ≡ m.pendings
  pub pended : m.pended ≤ n.pended

-- what a poll answers: Pending and an item come only until it has ended
abbrev pub Flows : {X : Type 0} → Flow X → Poll (Option X) → Flow X → Type 0
Flows m Pending n = (n ≡ record m { pended = n.pended }) × (m.ended ≡ false) × (m.pended < n.pended) × (n.pended ≤ m.pendings)
Flows m (Ready None) n = Waited m n × (n.ended ≡ true) × (n.rest ≡ m.rest) × (n.left ≤ m.left) × ForSome m.rest (λ xs. xs ≡ [])
Flows m (Ready (Some x)) n = Waited m n × (m.ended ≡ false) × (n.ended ≡ false) × (n.left < m.left) × Shifts m.rest x n.rest

-- an item is one that it might give, and what it might give now it might give before
abbrev pub GivesOf : {X : Type 0} → (X → Type 0) → (X → Type 0) → Poll (Option X) → Type 0
GivesOf before now Pending = (x : _) → now x → before x
GivesOf before now (Ready None) = (x : _) → now x → before x
GivesOf before now (Ready (Some item)) = before item × ((x : _) → now x → before x)

-- polls under this Gate, each of which gave an item that is passed over, lead from the first to the second
pub data Passes {T X : Type 0} (polled : T → Gate → Poll (Option X) → T → Type 0) (is_passed : X → Type 0) (gate : Gate)
    : T → T → Type 0 where
  none : {t : T} → Passes polled is_passed gate t t
  more : {t u v : T} {item : X} → Passes polled is_passed gate t u → is_passed item → polled u gate (Ready (Some item)) v
      → Passes polled is_passed gate t v

-- behind such items the stream has answered so
abbrev pub AsksOn : {T X : Type 0} → (T → Gate → Poll (Option X) → T → Type 0) → (X → Type 0) → Gate → T → Poll (Option X) → T
    → Type 0
AsksOn polled is_passed gate t answer v = (u : _) × Passes polled is_passed gate t u × polled u gate answer v

-- items of two lists in turn, the first list's first; it ends where the one whose turn it is has none
abbrev pub alternate : {X : Type 0} → List X → List X → List X
alternate [] ys = []
alternate (x ∷ xs) [] = x ∷ []
alternate (x ∷ xs) (y ∷ ys) = x ∷ (y ∷ alternate xs ys)

-- what two streams answer that are asked one after the other: the second where the first is Pending
abbrev pub Asks : {X : Type 0} → Flow X → Flow X → Flow X → Flow X → Poll (Option X) → Type 0
Asks a a' b b' Pending = Flows a Pending a' × Flows b Pending b'
Asks a a' b b' (Ready item) = ((b' ≡ b) × Flows a (Ready item) a') ⊎ (Flows a Pending a' × Flows b (Ready item) b')

-- the one was asked under this Gate, and the other where the one is Pending
abbrev pub AsksBoth : {A B X : Type 0} → (A → Gate → Poll (Option X) → A → Type 0) → (B → Gate → Poll (Option X) → B → Type 0)
    → Gate → A → B → Poll (Option X) → A → B → Type 0
AsksBoth one other gate a b Pending a' b' = one a gate Pending a' × other b gate Pending b'
AsksBoth one other gate a b (Ready item) a' b' =
    ((b' ≡ b) × one a gate (Ready item) a') ⊎ (one a gate Pending a' × other b gate (Ready item) b')

-- what the two of them may give: an item is one that either might give
abbrev pub AsksOf : {X : Type 0} → (X → Type 0) → (X → Type 0) → (X → Type 0) → (X → Type 0) → Poll (Option X) → Type 0
AsksOf a a' b b' answer = GivesOf (λ x. a x ⊎ b x) (λ x. a' x ⊎ b' x) answer

pub record Joined (A B : Type 0) : Type 0 where
  pub first : A
  pub second : B
  -- the first is asked first
  pub turn : Bool
  pub ended : Bool

module _ {A B X : Type 0} (first : A → Gate → Poll (Option X) → A → Type 0)
    (second : B → Gate → Poll (Option X) → B → Type 0) where
  abbrev pub AsksAt : Bool → Joined A B → Gate → Poll (Option X) → Joined A B → Type 0
  AsksAt true j gate answer k = (k.turn ≡ false) × AsksBoth first second gate j.first j.second answer k.first k.second
  AsksAt false j gate answer k = (k.turn ≡ true) × AsksBoth second first gate j.second j.first answer k.second k.first

  -- until it has ended, the one whose turn it is was asked, and where that is Pending the other
  abbrev pub AsksJoined : Bool → Joined A B → Gate → Poll (Option X) → Joined A B → Type 0
  AsksJoined true j gate answer k = (k ≡ j) × (answer ≡ Ready None)
  AsksJoined false j gate answer k = AsksAt j.turn j gate answer k

-- told where both tell and neither is ever Pending
abbrev pub joined_rest : {X : Type 0} → Bool → Bool → Option (List X) → Option (List X) → Option (List X)
joined_rest false ended xs ys = None
joined_rest true ended None ys = None
joined_rest true ended (Some xs) None = None
joined_rest true true (Some xs) (Some ys) = Some []
joined_rest true false (Some xs) (Some ys) = Some (alternate xs ys)

-- the items of the stream that is asked first and of the other, in turn
abbrev pub joined_flow : {X : Type 0} → Bool → Flow X → Flow X → Flow X
joined_flow ended a b = record {
  rest = joined_rest (nat_eq (a.pendings + b.pendings) 0) ended a.rest b.rest;
  left = a.left + b.left;
  ended = ended;
  pended = a.pended + b.pended;
  pendings = a.pendings + b.pendings;
}

abbrev pub join_flow : {X : Type 0} → Bool → Bool → Flow X → Flow X → Flow X
join_flow true ended a b = joined_flow ended a b
join_flow false ended a b = joined_flow ended b a

pub record OneLeft (X : Type 0) : Type 0 where
  pub value : Option X
  pub ended : Bool

abbrev pub one_flow : {X : Type 0} → OneLeft X → Flow X
one_flow o = record {
  rest = Some (option_to_list o.value);
  left = length (option_to_list o.value);
  ended = o.ended;
  pended = 0;
  pendings = 0;
}
