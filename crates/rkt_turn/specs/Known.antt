-- What a pass knows, and how a call changes it.
use Rattle.std.specs.Prelude.{◌≡◌, ℕ, zero, suc, ◌+◌, ◌<◌, ◌≤◌, ◌==◌, false, true, if◌then◌else◌, List, [], ◌∷◌, ◌++◌, drop, length, Some, None, ⊤}
use Rattle.atomic_table.specs.declared.shared.Seat.{Seat}
use Rattle.rkt_turn.specs.declared.known.Known.{Known}
use Rattle.rkt_turn.specs.declared.known.Returned.{Returned}
use Rattle.rkt_turn.specs.Booked.{StartsWith, longer, of, AreOf, Adds}

-- 2 ^ 64 - 2, the last number, which is given again and again
abbrev pub last_number : ℕ
last_number = 18446744073709551614

-- 1 where two numbers are the same, and else 0
abbrev pub one : ℕ → ℕ → ℕ
one n k = if n == k then 1 else 0

-- how often n stands in the list
abbrev pub times : ℕ → List ℕ → ℕ
times n [] = 0
times n (k ∷ ks) = one n k + times n ks

-- the list without one n, or without its last where it has no n: so it is always one shorter
abbrev pub without : ℕ → List ℕ → List ℕ
without n [] = []
without n (k ∷ []) = []
without n (k ∷ j ∷ ks) = if n == k then j ∷ ks else k ∷ without n (j ∷ ks)

module _ {E : Type 0} where
  -- what was entered under the number n by the passes that are listed
  abbrev pub mine_of : ℕ → List (Returned E) → List E
  mine_of n [] = []
  mine_of n (r ∷ rs) = if n == r.number then r.mine else mine_of n rs

module _ {N E : Type 0} where
  -- the first pass, before the state is there
  abbrev pub newcomer : N → Known N E
  newcomer name = record {
    name = Some name;
    number = 0;
    next = 1;
    turn = false;
    opened = false;
    spent = false;
    base = [];
    seen = [];
    other = [];
    mine = [];
    out = [];
    back = [];
  }

  -- in a turn, where this list was found
  abbrev pub entered : Known N E → List E → Known N E
  entered v list = record v { turn = true; base = list; seen = list }

  -- after a turn that left this list
  abbrev pub gave : Known N E → List E → Known N E
  gave v list = record v { turn = false; opened = true; base = []; seen = list; mine = v.mine ++ drop (length v.base) list }

  -- what a turn added to the list stands behind the pass's own entries
  abbrev pub OwnsAdded : Known N E → List E → Known N E → Type 0
  OwnsAdded v list w = (added : List E) → list ≡ v.base ++ added → w.mine ≡ v.mine ++ added

  -- what a turn leaves alone: the name, the number and which passes are out or came back
  abbrev pub SamePlace : Known N E → Known N E → Type 0
  SamePlace v w = (w.name ≡ v.name) × (w.number ≡ v.number) × (w.next ≡ v.next) × (w.out ≡ v.out) × (w.back ≡ v.back)

  -- the first pass, after it gave its next number away: the last one is given again and again
  abbrev pub drew : Known N E → Known N E
  drew v = record v { next = (if v.next == last_number then last_number else v.next + 1); out = v.next ∷ v.out }

  -- the pass that gets the number, which has seen as much
  abbrev pub another : Known N E → Known N E
  another v = record {
    name = v.name;
    number = v.next;
    next = 0;
    turn = false;
    opened = v.opened;
    spent = false;
    base = [];
    seen = v.seen;
    other = [];
    mine = [];
    out = [];
    back = [];
  }

  -- the first pass, after it gave so many numbers away
  abbrev pub drawn : ℕ → Known N E → Known N E
  drawn zero v = v
  drawn (suc n) v = drew (drawn n v)

  -- so many numbers are left below the last one
  abbrev pub HasRoom : ℕ → Known N E → Type 0
  HasRoom count v = v.next + count ≤ last_number

  -- the passes that get these numbers, in order
  abbrev pub split_off : ℕ → Known N E → List (Known N E)
  split_off zero v = []
  split_off (suc n) v = split_off n v ++ another (drawn n v) ∷ []

  -- what a pass gives back when it is joined
  abbrev pub given_back : Known N E → Returned E
  given_back v = record { number = v.number; mine = v.mine }

  -- the first pass, after it took another one in and before it compares what the two have seen
  abbrev pub took_in : Known N E → Known N E → Known N E
  took_in v w = record v { other = w.seen; out = without w.number v.out; back = given_back w ∷ v.back }

  -- after the comparison
  abbrev pub compared : Known N E → Known N E
  compared v = record v { seen = longer v.seen v.other; other = [] }

  -- the first pass, after it took another one in: it has seen the longer list
  abbrev pub joined : Known N E → Known N E → Known N E
  joined v w = compared (took_in v w)

  -- the first pass, after it took all of these in, the last one first
  abbrev pub joined_all : Known N E → List (Known N E) → Known N E
  joined_all v [] = v
  joined_all v (w ∷ ws) = joined (joined_all v ws) w

  -- the list begins with what each of these passes has seen
  abbrev pub HaveSeen : List E → List (Known N E) → Type 0
  HaveSeen list [] = ⊤
  HaveSeen list (w ∷ ws) = StartsWith list w.seen × HaveSeen list ws

  -- a pass that was joined to the first
  abbrev pub gone : Known N E
  gone = record {
    name = None;
    number = 0;
    next = 0;
    turn = false;
    opened = false;
    spent = true;
    base = [];
    seen = [];
    other = [];
    mine = [];
    out = [];
    back = [];
  }

  -- the first pass and those that came back to it, each with what it entered
  abbrev pub all_passes : Known N E → List (Returned E)
  all_passes v = given_back v ∷ v.back

  -- 1 where the pass has the number n and is not spent
  abbrev pub has : ℕ → Known N E → ℕ
  has n v = if v.spent then 0 else one n v.number

  -- how many passes have the number n
  abbrev pub count : ℕ → List (Known N E) → ℕ
  count n [] = 0
  count n (v ∷ vs) = has n v + count n vs

  -- the list has of the pass's entries just those that it entered: below the last number, which several passes may have
  abbrev pub HasMine : (E → ℕ) → Known N E → List E → Type 0
  HasMine number v list = v.number < last_number → of number v.number list ≡ v.mine

  -- the list is the one that the pass found in its turn, or that with one more entry of this pass
  abbrev pub AddsOne : (E → ℕ) → Known N E → List E → Type 0
  AddsOne number v list = Adds number v.number v.base list

  -- the list is the one that the pass found in its turn, with entries of this pass behind it
  abbrev pub AddsOwn : (E → ℕ) → Known N E → List E → Type 0
  AddsOwn number v list = (added : List E) × (list ≡ v.base ++ added) × AreOf number v.number added

module _ {E : Type 0} where
  -- of each number below the last one, the list has what the pass with that number entered
  abbrev pub HasAll : (E → ℕ) → List (Returned E) → List E → Type 0
  HasAll number passes list = (n : ℕ) → n < last_number → of number n list ≡ mine_of n passes

module _ {S N E : Type 0} where
  abbrev pub view : Seat S (Known N E) → Known N E
  view seat = seat.me.0
