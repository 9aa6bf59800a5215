-- What a diary allows, and what stands in it in the end.
use Rattle.std.specs.Prelude.{◌≡◌, ℕ, ◌+◌, ◌*◌, ◌≤◌, ◌<◌, nat_lt, slice_index_or, if◌then◌else◌, Bool, false, not, List, [], ◌∷◌, length, All, ⊤, Some, vec_len, vec_capacity}
use Rattle.rkt_turn.specs.declared.known.Known.{Known}
use Rattle.rkt_turn.specs.declared.pass.PassOf.{PassOf}
use Rattle.rkt_turn.specs.Booked.{of}
use Rattle.rkt_turn.specs.Known.{last_number}
use Rattle.rkt_turn.specs.Pass.{number_of}
use Rattle.cases_turn.specs.declared.diary.Diary.{Diary}
use Rattle.cases_turn.specs.declared.diary.Entry.{Entry}
use Rattle.cases_turn.specs.declared.diary.Plan.{Plan}

-- how many entries there are once each pass has had its turns
abbrev pub entries_of : Plan → ℕ
entries_of plan = plan.others * plan.turns + plan.turns

-- the number of the pass that wrote it
abbrev pub writer : Entry → ℕ
writer e = e.by

-- of the entries of one pass, ends and beginnings take turns; the flag says whether something is open before them
abbrev pub TakeTurns : Bool → List Entry → Type 0
TakeTurns begun [] = ⊤
TakeTurns begun (e ∷ es) = (e.ends ≡ begun) × TakeTurns (not begun) es

-- whether something is open behind them
abbrev pub open_after : Bool → List Entry → Bool
open_after begun [] = begun
open_after begun (e ∷ es) = open_after (not begun) es

-- each pass ends only what it has begun, and begins only once it has ended what it began before
pub record IsDiary (plan : Plan) (list : List Entry) : Type 0 where
  pub turns : (n : ℕ) → TakeTurns false (of writer n list)
  pub few : (n : ℕ) → length (of writer n list) ≤ plan.turns
  pub nobody_else : All (λ e. writer e ≤ plan.others) list

-- just so many entries of each pass as it had turns, and none of anybody else
abbrev pub HasOfEach : Plan → List Entry → Type 0
HasOfEach plan list = (n : ℕ) → length (of writer n list) ≡ (if nat_lt plan.others n then 0 else plan.turns)

-- it knows how many entries it has, and has room for all that are planned
abbrev pub IsWhole : Diary → Type 0
IsWhole d = (d.count ≡ vec_len d.entries) × (entries_of d.plan ≤ vec_capacity d.entries)

-- a pass with a number of its own that the plan knows
abbrev pub IsPlanned : Plan → Known Plan Entry → Type 0
IsPlanned plan v = (v.name ≡ Some plan) × (v.number ≤ plan.others) × (plan.others < last_number)

-- such a pass that has turns left
abbrev pub MayWrite : Known Plan Entry → Type 0
MayWrite v = (plan : Plan) × IsPlanned plan v × (length v.mine < plan.turns)

-- such a pass that has had its turns
abbrev pub HasWritten : Plan → Known Plan Entry → Type 0
HasWritten plan v = length v.mine ≡ plan.turns

module _ {S N E : Type 0} where
  -- place by place, the passes have the numbers that these have
  abbrev pub HaveNumbersOf : List (PassOf S N E) → List (PassOf S N E) → Type 0
  HaveNumbersOf qs ps = (k : ℕ) (d : PassOf S N E) → k < length ps
      → number_of (slice_index_or qs k d) ≡ number_of (slice_index_or ps k d)
