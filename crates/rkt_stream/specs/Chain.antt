-- What a source means that gives one source's bytes, and then another's.
use Rattle.std.specs.Option.{ForSome}
use Rattle.std.specs.Prelude.{◌≡◌, ◌≢◌, ℕ, ◌+◌, ◌-◌, ◌≤◌, ◌⊎◌, ◌&&◌, ◌||◌, ◌++◌, Bool, true, false, List, length, drop, Option, None, Some, Ok}
use Rattle.rkt_base.specs.declared.poll.Poll.{Poll}
use Rattle.rkt_base.specs.declared.poll.Poll.TheVariants.{Ready, Pending}
use Rattle.rkt_source.specs.Source.{Meaning, Polled}

pub record Chained (T U : Type 0) : Type 0 where
  pub first : T
  pub second : U
  -- how many bytes the second had given before it was chained
  pub skipped : ℕ
  -- the first has ended
  pub over : Bool

-- the first's bytes, and then those that the second had still to give; told where both tell
abbrev pub chained_whole : Option (List ℕ) → Option (List ℕ) → ℕ → Option (List ℕ)
chained_whole None ys skipped = None
chained_whole (Some xs) None skipped = None
chained_whole (Some xs) (Some ys) skipped = Some (xs ++ drop skipped ys)

-- counts are sums; it never fails where neither does, was warned where one was, and is shut where the one is that it reads
abbrev pub chained_meaning : Bool → ℕ → Meaning → Meaning → Meaning
chained_meaning over skipped m n = record {
  whole = chained_whole m.whole n.whole skipped;
  taken = m.taken + (n.taken - skipped);
  faults = m.faults + n.faults;
  never_faults = m.never_faults && n.never_faults;
  warned = m.warned || n.warned;
  shut = m.shut || (over && n.shut);
  pended = m.pended + n.pended;
  pendings = m.pendings + n.pendings;
}

-- until the first has ended, nothing is taken from the second
abbrev pub InTurn : Bool → ℕ → Meaning → Meaning → Type 0
InTurn false skipped m n = n.taken ≡ skipped
InTurn true skipped m n = (skipped ≤ n.taken) × ForSome m.whole (λ w. m.taken ≡ length w)

module _ {T U : Type 0} (first : Polled T) (second : Polled U) where
  -- once the first is over the second is asked alone; until then the first is, and where it gives nothing the second too
  abbrev pub AsksInTurn : Bool → Polled (Chained T U)
  AsksInTurn true a gate room answer b = (b ≡ record a { second = b.second }) × second a.second gate room answer b.second
  AsksInTurn false a gate room answer b =
      ((b ≡ record a { first = b.first }) × first a.first gate room answer b.first × (answer ≢ Ready (Ok 0)))
      ⊎ ((b ≡ record a { first = b.first; second = b.second; over = true })
      × first a.first gate room (Ready (Ok 0)) b.first × second a.second gate room answer b.second)

  -- one read under this Gate, which answers as the last that it asked; each was asked with all the room
  abbrev pub ReadsChained : Polled (Chained T U)
  ReadsChained a gate room answer b = AsksInTurn a.over a gate room answer b

abbrev pub SamePlace : {T U : Type 0} → Chained T U → Chained T U → Type 0
SamePlace a b = (b.skipped ≡ a.skipped) × (b.over ≡ a.over)

-- the first is shut down, and then the second
abbrev pub ShutsChained : {T U : Type 0} → (T → Poll (Unit {0}) → T → Type 0) → (U → Poll (Unit {0}) → U → Type 0) → Chained T U
    → Poll (Unit {0}) → Chained T U → Type 0
ShutsChained first second a Pending b =
    SamePlace a b
    × (((b.second ≡ a.second) × first a.first Pending b.first)
    ⊎ (first a.first (Ready tt) b.first × second a.second Pending b.second))
ShutsChained first second a (Ready answer) b =
    SamePlace a b × first a.first (Ready tt) b.first × second a.second (Ready tt) b.second
