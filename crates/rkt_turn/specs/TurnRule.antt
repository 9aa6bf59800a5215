-- The rule of a turn lock, and what each step on it tells.
use Rattle.std.specs.Prelude.{◌≡◌, ◌≢◌, ℕ, ◌+◌, ◌<◌, ◌≤◌, if◌then◌else◌, Bool, true, false, List, [], ◌∷◌, length, slice_index, Option, Some, None}
use mathlib.Core.Option.{none, some}
use mathlib.Core.Option as maybe
use lib.ListN.{get_elem?}
use Rattle.atomic_table.specs.Table.{State, Me, Step}
use Rattle.atomic_table.specs.declared.shared.Seat.{Seat}
use Rattle.rkt_turn.specs.declared.known.Known.{Known}
use Rattle.rkt_turn.specs.Booked.{StartsWith, InOneOrder, of}
use Rattle.rkt_turn.specs.Known.{HasMine, HasAll, all_passes, last_number, times, mine_of, entered, gave, compared, count, view}

module _ {S N E : Type 0} where
  -- a pass has its number and the next one at hand, and holds the emptied slot in a turn
  abbrev pub Tied : Seat (Option S) (Known N E) → ℕ → ℕ → Type 0
  Tied seat own next =
      ((view seat).number ≡ own)
      × ((view seat).next ≡ next)
      × (own ≤ last_number)
      × (next ≤ last_number)
      × ((view seat).spent ≡ false)
      × (seat.me.1 ≡ (if (view seat).turn then (0, None) ∷ [] else []))

module _ {S N E : Type 0} (name_of : S → N) (entries : S → List E) (legal : N → List E → Type 0) (kept : S → Type 0)
    (number : E → ℕ) (name : N) where
  -- what the slot at home holds: once opened, a state that stands for the name and the list
  abbrev pub Shows : Bool → List E → Option S → Type 0
  Shows true list (Some x) = (name_of x ≡ name) × (entries x ≡ list) × legal name list × kept x
  Shows true list None = ⊥
  Shows false list (Some x) = ⊥
  Shows false list None = list ≡ []

  -- where the state is: at home with the word 0, or out with the pass that has the turn, whose number plus 1 is the word
  abbrev pub Placed : State (Option S) (Known N E) → Bool → List E → maybe.Option ℕ → Type 0
  Placed s opened list none = (slice_index s.words 0 ≡ 0) × ((y : Option S) × (s.homes ≡ some y ∷ []) × Shows opened list y)
  Placed s opened list (some j) =
      (v : Known N E)
      × (get_elem? s.views j ≡ some v)
      × (v.spent ≡ false)
      × (v.turn ≡ true)
      × (slice_index s.words 0 ≡ v.number + 1)
      × (s.homes ≡ none ∷ [])
      × (v.base ≡ list)

  -- what a pass knows fits the list: it stands for the name, the list begins with what it has seen, and has of its
  -- entries just those of `mine`
  pub record Fits (opened : Bool) (list : List E) (v : Known N E) : Type 0 where
    pub named : v.name ≡ Some name
    pub open_too : v.opened ≡ opened
    pub began : StartsWith list v.seen
    pub other : StartsWith list v.other
    pub small : v.number ≤ last_number
    pub own : HasMine number v list

  -- there is a list, at most one holder, and a first pass, such that the following holds of all passes that are not spent
  pub record Kept (s : State (Option S) (Known N E)) : Type 0 where
    pub list : List E
    pub opened : Bool
    pub holder : maybe.Option ℕ
    pub first : ℕ
    pub lead : Known N E
    pub one_word : length s.words ≡ 1
    pub leads : get_elem? s.views first ≡ some lead
    pub head : (lead.number ≡ 0) × (lead.spent ≡ false)
    pub placed : Placed s opened list holder
    -- who has the turn is the holder
    pub turns : (j : ℕ) (v : Known N E) → get_elem? s.views j ≡ some v → v.spent ≡ false → v.turn ≡ true → holder ≡ some j
    pub each : (j : ℕ) (v : Known N E) → get_elem? s.views j ≡ some v → v.spent ≡ false → Fits opened list v
    pub alone : opened ≡ false → lead.out ≡ []
    -- the passes have the number 0 and those that are out, each as often as it is out, and up to the last number once
    pub counted : (n : ℕ) → count n s.views ≡ times n (0 ∷ lead.out)
    pub once : (n : ℕ) → n < last_number → times n (0 ∷ lead.out) ≤ 1
    -- of a number that no pass has, the list has what those entered that came back with it
    pub others : (n : ℕ) → n < last_number → times n (0 ∷ lead.out) ≡ 0 → of number n list ≡ mine_of n lead.back
    -- from the next number on, no pass has it or came back with it
    pub fresh : (n : ℕ) → lead.next ≤ n → n < last_number → (times n (0 ∷ lead.out) ≡ 0) × (mine_of n lead.back ≡ [])

abbrev Sat : Type 0 → Type 0 → Type 0 → Type 0
Sat S N E = Me (Option S) (Known N E)

module _ {S N E : Type 0} where
  -- the first turn of all: the word was 0, and the slot is empty
  abbrev pub begun : Step (Option S) → Sat S N E → ℕ → Sat S N E → Type 0
  begun st m r m' = (r ≡ 0) × (m' ≡ (entered m.0 [], (0, None) ∷ m.1))

  module _ (name_of : S → N) (entries : S → List E) (legal : N → List E → Type 0) (kept : S → Type 0) (number : E → ℕ) where
    -- what a turn finds, of a pass that knows v
    pub record Took (v : Known N E) (x : S) : Type 0 where
      pub named : v.name ≡ Some (name_of x)
      pub allowed : legal (name_of x) (entries x)
      pub keeps : kept x
      pub began : StartsWith (entries x) v.seen
      pub own : HasMine number v (entries x)
      -- of the first pass with none out: the list has what it and the joined ones entered, and nobody adds to that
      pub alone : v.number ≡ 0 → v.out ≡ [] → HasAll number (all_passes v) (entries x)

    -- taking the turn: where the word was 0, the state is here
    abbrev pub taken : Step (Option S) → Sat S N E → ℕ → Sat S N E → Type 0
    taken st m r m' = (r ≡ 0 → (x : S) × Took m.0 x × (m' ≡ (entered m.0 (entries x), (0, Some x) ∷ m.1))) × (r ≢ 0 → m' ≡ m)

  -- giving the turn
  abbrev pub given : (S → List E) → Step (Option S) → Sat S N E → ℕ → Sat S N E → Type 0
  given entries st m r m' = (x : S) → m.1 ≡ (0, Some x) ∷ [] → m' ≡ (gave m.0 (entries x), [])

  -- comparing: what the pass and the one that was joined to it have seen begins one list
  abbrev pub settled : Step (Option S) → Sat S N E → ℕ → Sat S N E → Type 0
  settled st m r m' = (m' ≡ (compared m.0, m.1)) × InOneOrder m.0.seen m.0.other
