-- What routing holds at each of its stages: whatever completes it from here completes it from its beginning, behind the calls
-- that were made so far.
use Rattle.std.specs.Prelude.{◌≡◌, ◌++◌, ℕ, List, [], ◌∷◌, Bool, true, false, Option, Some, None, Result, slice_get}
use Rattle.rkt_http.specs.declared.outcome.Outcome.TheVariants.{Forward}
use Rattle.rkt_http.specs.declared.status.Status.{Status}
use Rattle.rkt_source.specs.declared.source.Gate.{Gate}
use Rattle.rkt_message.specs.Response.{ResponseOf}
use Rattle.rkt_request.specs.Lent.{Kept, Lent, Grows}
use Rattle.rkt_request.specs.Seen.{Seen}
use Rattle.rkt_request.specs.declared.bad.Bad.{Bad}
use Rattle.rkt_route.specs.declared.catcher.Catcher.{Catcher}
use Rattle.rkt_route.specs.declared.catcher.Catching.TheVariants.{App}
use Rattle.rkt_route.specs.declared.route.Route.{Route}
use Rattle.rkt_router.specs.Callbacks.{Handed, Refused, Reply, RequestAt}
use Rattle.rkt_router.specs.Calling.{Calling}
use Rattle.rkt_router.specs.Calls.{GateFits, GateRule, Made, Making, OnceOver, any_gate}
use Rattle.rkt_router.specs.Page.{IsDefaultPage}
use Rattle.rkt_router.specs.Tries.{IsNextTry}
use Rattle.rkt_router.specs.declared.turn.Final.{Final}
use Rattle.rkt_router.specs.declared.turn.Polled.{Polled}
use Rattle.rkt_router.specs.declared.turn.Polled.TheVariants as turn
use Rattle.rkt_turn.specs.HandsBack.{HandsBack}
use Rattle.rkt_turn.specs.Shutdown.{Handle}
use Rattle.rkt_routing.specs.Backs.{Backs}
use Rattle.rkt_routing.specs.Between.{BetweenOf}
use Rattle.rkt_routing.specs.Beginning.{Beginning}
use Rattle.rkt_routing.specs.Found.{Found}
use Rattle.rkt_routing.specs.Routed.{Routes, TriesRoutes, Goes, Chooses, HandlesError, Fails, Catches, CatcherReplies, Finds, Following, Retries, Settles, mounted, turns_of}
use Rattle.rkt_routing.specs.Ranks.{RankDecreases, rank}
use Rattle.rkt_routing.specs.Relations.{Relations, relations}
use Rattle.rkt_routing.specs.declared.progress.Progress.{Progress}
use Rattle.rkt_routing.specs.declared.progress.Progress.TheVariants as progress
use Rattle.rkt_routing.specs.declared.run.Call.{Call}
use Rattle.rkt_routing.specs.declared.stage.CatcherTask.{CatcherTask}
use Rattle.rkt_routing.specs.declared.stage.Live.{Live}
use Rattle.rkt_routing.specs.declared.stage.Moved.{Moved}
use Rattle.rkt_routing.specs.declared.stage.Moved.TheVariants as moved
use Rattle.rkt_routing.specs.declared.stage.RoutedOf.{RoutedOf}
use Rattle.rkt_routing.specs.declared.stage.RoutedOf.TheVariants as routed
use Rattle.rkt_routing.specs.declared.stage.RouteTask.{RouteTask}
use Rattle.rkt_routing.specs.declared.stage.Stage.{Stage}
use Rattle.rkt_routing.specs.declared.stage.Stage.TheVariants as stage
use Rattle.rkt_routing.specs.Table.{SeenTable}

-- where routing begins
abbrev pub begins : {B HTask KTask : Type 0} → List Bad → B → Stage B HTask KTask
begins [] body = stage.Next None body (record { code = 404 }) false
begins (fault ∷ faults) body = stage.Catch (record { code = 400 })

-- a list of Gates ends with this one
abbrev pub EndsWith : List Gate → Gate → Type 0
EndsWith gates gate = (earlier : List Gate) × (gates ≡ earlier ++ gate ∷ [])

module _ {V B C S H HTask K KTask N : Type 0} (rel : Relations V B C S H HTask K KTask) (table : SeenTable H K N) where
  -- what follows a walk, which is the second one or not
  abbrev pub Follows : Bool → Following V C S → Reply S B → Seen V → Kept C → List Call → Type 0
  Follows true answered = Settles rel table answered
  Follows false answered = Retries rel table answered

module _ {V B C S H HTask K KTask N : Type 0} (rel : Relations V B C S H HTask K KTask) (first : Beginning V B C)
    (table : SeenTable H K N) where
  -- between two calls
  abbrev pub Between : Kept C → List Call → (List Call → Found V C S → Type 0) → Type 0
  Between kept =
      BetweenOf (λ calls found. Routes rel table first.faults first.at calls (Finds found)) first.at.kept.shutdown kept.shutdown

  -- a route is being called
  pub record Trying (live : Live (Seen V) (Lent C)) (position : ℕ) (task : HTask) (turn : ℕ) (again : Bool) : Type 0 where
    pub before : RequestAt V B C
    pub status : Status
    pub behind : Option ℕ
    pub route : Route H N
    pub found : slice_get table.router.routes position ≡ Some route
    pub next : IsNextTry table.router.routes before.request behind (Some position)
    pub mounted_is : live.request ≡ mounted before.request route position
    pub between : Between before.kept live.calls (λ rest found.
        TriesRoutes rel table behind before status rest (Follows rel table again (Finds found)))
    pub making : Making rel.handlers rel.gates (turns_of table) route.handler
        (record { request = live.request; body = before.body }) before.kept task live.ctx.kept turn

  -- a route was called, and this is its reply
  pub record Tried (live : Live (Seen V) (Lent C)) (position : ℕ) (again : Bool) (reply : Final (Reply S B)) : Type 0 where
    pub before : RequestAt V B C
    pub status : Status
    pub behind : Option ℕ
    pub route : Route H N
    pub found : slice_get table.router.routes position ≡ Some route
    pub next : IsNextTry table.router.routes before.request behind (Some position)
    pub mounted_is : live.request ≡ mounted before.request route position
    pub between : Between before.kept live.calls (λ rest found.
        TriesRoutes rel table behind before status rest (Follows rel table again (Finds found)))
    pub grows : Grows before.kept live.ctx.kept
    pub made : OnceOver reply (Made rel.handlers rel.gates (turns_of table) route.handler
        (record { request = live.request; body = before.body }) before.kept reply live.ctx.kept)

  -- and its call was recorded
  abbrev pub Replied : Live (Seen V) (Lent C) → ℕ → Bool → Final (Reply S B) → Type 0
  Replied live position again reply =
      Between live.ctx.kept live.calls (λ rest found. Goes reply
      (λ body status.
      TriesRoutes rel table (Some position) (record { request = live.request; body = body; kept = live.ctx.kept }) status rest
      (Follows rel table again (Finds found)))
      (λ outcome. Follows rel table again (Finds found) outcome live.request live.ctx.kept rest))

  -- a walk has forwarded a body with a status
  abbrev pub Forwards : Live (Seen V) (Lent C) → B → Status → Bool → Type 0
  Forwards live body status again =
      Between live.ctx.kept live.calls (λ rest found.
      Follows rel table again (Finds found) (Forward (body, status)) live.request live.ctx.kept rest)

  -- a catcher was chosen for a status, or none
  abbrev pub Chosen : Live (Seen V) (Lent C) → Kept C → Status → Option ℕ → Type 0
  Chosen live kept status chosen =
      Between kept live.calls (λ rest found.
      Chooses rel table chosen status live.request kept rest (Finds found) (Fails rel table status live.request (Finds found)))

  -- the default page of a code is to answer
  abbrev pub Pages : Live (Seen V) (Lent C) → ℕ → Type 0
  Pages live code =
      Between live.ctx.kept live.calls (λ rest found.
      (page : ResponseOf S) × IsDefaultPage code live.request page × Finds found page live.request live.ctx.kept rest)

  -- a catcher is being called
  pub record Catching (live : Live (Seen V) (Lent C)) (status : Status) (position : ℕ) (task : KTask) (turn : ℕ) : Type 0 where
    pub before : Kept C
    pub catcher : Catcher K
    pub handler : K
    pub found : slice_get table.router.catchers position ≡ Some catcher
    pub handles : catcher.handler ≡ App handler
    pub chosen : Chosen live before status (Some position)
    pub making : Making rel.catchers rel.gates (turns_of table) handler
        (record { status = status; request = live.request }) before task live.ctx.kept turn

  -- a catcher was called, and this is its reply
  pub record Called (live : Live (Seen V) (Lent C)) (status : Status) (position : ℕ)
      (reply : Final (Result (ResponseOf S) Status)) : Type 0 where
    pub before : Kept C
    pub catcher : Catcher K
    pub found : slice_get table.router.catchers position ≡ Some catcher
    pub chosen : Chosen live before status (Some position)
    pub grows : Grows before live.ctx.kept
    pub made : OnceOver reply (CatcherReplies rel table catcher.handler status live.request before reply live.ctx.kept)

  -- and its call was recorded
  abbrev pub Caught : Live (Seen V) (Lent C) → Status → Final (Result (ResponseOf S) Status) → Type 0
  Caught live status reply =
      Between live.ctx.kept live.calls (λ rest found.
      Catches reply (λ response. Finds found response live.request live.ctx.kept rest)
      (Fails rel table status live.request (Finds found) live.ctx.kept rest))

  abbrev pub InvariantAt : Live (Seen V) (Lent C) → Stage B HTask KTask → Type 0
  InvariantAt live (stage.Next behind body status again) =
      Between live.ctx.kept live.calls (λ rest found.
      TriesRoutes rel table behind (record { request = live.request; body = body; kept = live.ctx.kept }) status rest
      (Follows rel table again (Finds found)))
  InvariantAt live (stage.Trying call) = Trying live call.position call.task call.turn call.again
  InvariantAt live (stage.Catch status) = Between live.ctx.kept live.calls (λ rest found.
      HandlesError rel table status live.request live.ctx.kept rest (Finds found))
  InvariantAt live (stage.Catching call) = Catching live call.status call.position call.task call.turn

  -- the same where a callback was Pending, and the Gate of its last poll is the one that it is lent
  abbrev pub WaitsAt : Live (Seen V) (Lent C) → Stage B HTask KTask → Type 0
  WaitsAt live (stage.Next behind body status again) = ⊥
  WaitsAt live (stage.Trying call) =
      (trying : Trying live call.position call.task call.turn call.again) × EndsWith trying.making.gates live.ctx.gate
  WaitsAt live (stage.Catch status) = ⊥
  WaitsAt live (stage.Catching call) =
      (catching : Catching live call.status call.position call.task call.turn) × EndsWith catching.making.gates live.ctx.gate

  -- a turn of a route's call was made: it waits, with one more turn, or has a reply
  abbrev pub RouteTurned : Live (Seen V) (Lent C) → RouteTask HTask → Polled (Reply S B) → Type 0
  RouteTurned live call turn.Pending = WaitsAt live (stage.Trying call)
  RouteTurned live call (turn.Over reply) = Tried live call.position call.again reply

  -- the same of a catcher's
  abbrev pub CatcherTurned : Live (Seen V) (Lent C) → CatcherTask KTask → Polled (Result (ResponseOf S) Status) → Type 0
  CatcherTurned live call turn.Pending = WaitsAt live (stage.Catching call)
  CatcherTurned live call (turn.Over reply) = Called live call.status call.position reply

  -- a response was found, and is to be finished
  abbrev pub Answered : Live (Seen V) (Lent C) → ResponseOf S → Type 0
  Answered live response = Between live.ctx.kept live.calls (λ rest found. Finds found response live.request live.ctx.kept rest)

  -- what a move leads to
  abbrev pub Moves : Live (Seen V) (Lent C) → Moved (Stage B HTask KTask) (ResponseOf S) → Type 0
  Moves live (moved.Going stage) = InvariantAt live stage
  Moves live (moved.Pending stage) = WaitsAt live stage
  Moves live (moved.Ended response) = Answered live response
  Moves live moved.Starved = HandsBack first.at.kept.shutdown live.ctx.kept.shutdown

  -- how routing ends: with what was found, to which the calls that were made lead, or with the handle; each word that a call
  -- recorded is the one that the handle has seen
  abbrev pub EndsSo : RoutedOf (Seen V) (Lent C) S Handle → Type 0
  EndsSo (routed.Found live response) =
      Routes rel table first.faults first.at live.calls
      (Finds (record { response = response; request = live.request; kept = live.ctx.kept }))
      × Backs first.at.kept.shutdown live.ctx.kept.shutdown live.calls
  EndsSo (routed.Starved shutdown) = HandsBack first.at.kept.shutdown shutdown

-- routing as contracts see it
pub record Holding (V B C H HTask K KTask N : Type 0) : Type 0 where
  pub table : SeenTable H K N
  pub live : Live (Seen V) (Lent C)
  pub stage : Stage B HTask KTask

module _ {V B C S H HTask K KTask N : Type 0} (rel : Relations V B C S H HTask K KTask) (first : Beginning V B C)
    (table : SeenTable H K N) where
  -- what a poll under a Gate gives: a callback was Pending under it, or routing has ended
  abbrev pub PolledGives : Gate → Progress (Holding V B C H HTask K KTask N) (RoutedOf (Seen V) (Lent C) S Handle) → Type 0
  PolledGives gate (progress.Pending next) =
      (next.table ≡ table)
      × (next.live.ctx.gate ≡ gate)
      × InvariantAt rel first table next.live next.stage
      × WaitsAt rel first table next.live next.stage
  PolledGives gate (progress.Ready ended) = EndsSo rel first table ended

-- what is known at a stage of what the callbacks mean: H, K and S stand for some handlers, catchers and streams
module _ {V B C S H HTask K KTask N : Type 0} (handlers : Calling H (Handed V B) (Kept C) (Reply S B) HTask)
    (catchers : Calling K (Refused V) (Kept C) (Result (ResponseOf S) Status) KTask) (table : SeenTable H K N) where
  -- routing stands there for some beginning
  abbrev pub IsSoundAt : Live (Seen V) (Lent C) → Stage B HTask KTask → Type 0
  IsSoundAt live stage = (first : Beginning V B C) × InvariantAt (relations handlers catchers any_gate) first table live stage

  -- whatever it stood for at a stage, under whatever rule its Gate fits, a move leads on from there
  abbrev pub LeadsOn : Live (Seen V) (Lent C) → Stage B HTask KTask → Live (Seen V) (Lent C)
      → Moved (Stage B HTask KTask) (ResponseOf S) → Type 0
  LeadsOn live stage live' moved =
      (rule : GateRule) (first : Beginning V B C)
      → GateFits rule live.ctx.gate
      → InvariantAt (relations handlers catchers rule) first table live stage
      → Moves (relations handlers catchers rule) first table live' moved

-- one move from a stage
pub record IsStep {V B C S H HTask K KTask N : Type 0} (handlers : Calling H (Handed V B) (Kept C) (Reply S B) HTask)
    (catchers : Calling K (Refused V) (Kept C) (Result (ResponseOf S) Status) KTask) (table : SeenTable H K N)
    (live : Live (Seen V) (Lent C)) (stage : Stage B HTask KTask) (live' : Live (Seen V) (Lent C))
    (moved : Moved (Stage B HTask KTask) (ResponseOf S)) : Type 0 where
  pub leads : LeadsOn handlers catchers table live stage live' moved
  pub gate : live'.ctx.gate ≡ live.ctx.gate
  pub falls : RankDecreases table (rank table stage) moved

-- it stands for some beginning
abbrev pub IsSound : {V B C S H HTask K KTask N : Type 0}
    → Calling H (Handed V B) (Kept C) (Reply S B) HTask
    → Calling K (Refused V) (Kept C) (Result (ResponseOf S) Status) KTask
    → Holding V B C H HTask K KTask N → Type 0
IsSound {V = V} {B = B} {C = C} handlers catchers held =
    (first : Beginning V B C) × InvariantAt (relations handlers catchers any_gate) first held.table held.live held.stage
