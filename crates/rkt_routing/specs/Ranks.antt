-- How many moves may follow one, so that routing comes to an end or to a callback that is Pending.
use Rattle.std.specs.Prelude.{ℕ, ◌+◌, ◌*◌, ◌<◌, ◌==◌, Bool, true, false, Option, Some, None, if◌then◌else◌, ⊤}
use Rattle.rkt_http.specs.declared.status.Status.{Status}
use Rattle.rkt_router.specs.Left.{left}
use Rattle.rkt_routing.specs.declared.stage.Moved.{Moved}
use Rattle.rkt_routing.specs.declared.stage.Moved.TheVariants as moved
use Rattle.rkt_routing.specs.declared.stage.Stage.{Stage}
use Rattle.rkt_routing.specs.declared.stage.Stage.TheVariants as stage
use Rattle.rkt_routing.specs.Table.{SeenTable}

-- while a catcher is called
abbrev pub catching_rank : Status → ℕ
catching_rank status = if status.code == 500 then 0 else 2

-- before one is chosen
abbrev pub catch_rank : Status → ℕ
catch_rank status = catching_rank status + 1

-- a second walk, where one may follow
abbrev pub again_rank : ℕ → Bool → ℕ
again_rank all true = 0
again_rank all false = 2 * all + 2

module _ {H K N : Type 0} (table : SeenTable H K N) where
  -- while a route is called
  abbrev pub trying_rank : ℕ → Bool → ℕ
  trying_rank position again =
      2 * left table.router.routes (Some position) + again_rank (left table.router.routes None) again + 5

  -- before the next one is found
  abbrev pub next_rank : Option ℕ → Bool → ℕ
  next_rank behind again = 2 * left table.router.routes behind + again_rank (left table.router.routes None) again + 4

  abbrev pub rank : {B HTask KTask : Type 0} → Stage B HTask KTask → ℕ
  rank (stage.Next behind body status again) = next_rank behind again
  rank (stage.Trying call) = trying_rank call.position call.again
  rank (stage.Catch status) = catch_rank status
  rank (stage.Catching call) = catching_rank call.status

  -- a move that goes on has fewer moves before it
  abbrev pub RankDecreases : {B HTask KTask R : Type 0} → ℕ → Moved (Stage B HTask KTask) R → Type 0
  RankDecreases before (moved.Going stage) = rank stage < before
  RankDecreases before (moved.Pending stage) = ⊤
  RankDecreases before (moved.Ended response) = ⊤
  RankDecreases before moved.Starved = ⊤
