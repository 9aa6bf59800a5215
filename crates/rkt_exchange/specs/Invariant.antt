-- What an exchange holds in each of its phases.
use Rattle.std.specs.Prelude.{◌≡◌, ◌++◌, ◌∷◌, ℕ, List, [], Bool, IsSomeAnd, Option, Some, None, ⊤}
use Rattle.rkt_base.specs.declared.poll.Poll.{Poll}
use Rattle.rkt_base.specs.declared.poll.Poll.TheVariants as poll
use Rattle.rkt_router.specs.Callbacks.{RequestAt}
use Rattle.rkt_message.specs.Response.{ResponseOf}
use Rattle.rkt_request.specs.Lent.{Lent}
use Rattle.rkt_request.specs.Seen.{Seen}
use Rattle.rkt_request.specs.declared.bad.Bad.{Bad}
use Rattle.rkt_router.specs.Calls.{GateFits, GateRule}
use Rattle.rkt_routing.specs.Backs.{Backs}
use Rattle.rkt_routing.specs.Beginning.{Beginning}
use Rattle.rkt_routing.specs.Found.{Found}
use Rattle.rkt_routing.specs.Routed.{is_head}
use Rattle.rkt_routing.specs.Invariant.{Holding, InvariantAt, WaitsAt}
use Rattle.rkt_routing.specs.declared.progress.Progress.{Progress}
use Rattle.rkt_routing.specs.declared.progress.Progress.TheVariants as progress
use Rattle.rkt_routing.specs.declared.run.Call.{Call}
use Rattle.rkt_routing.specs.declared.stage.Live.{Live}
use Rattle.rkt_source.specs.declared.source.Gate.{Gate}
use Rattle.rkt_turn.specs.HandsBack.{HandsBack}
use Rattle.rkt_turn.specs.Shutdown.{Handle}
use Rattle.rkt_exchange.specs.Answers.{Answers, AnswerInvariant, Outgoing, Pends as AnswerPends}
use Rattle.rkt_exchange.specs.Asks.{Asks, AskInvariant, Pends as AskPends}
use Rattle.rkt_exchange.specs.Beginning.{Over}
use Rattle.rkt_exchange.specs.Finalized.{finalized}
use Rattle.rkt_exchange.specs.Lifecycle.{Preprocessed, Lifecycle, Opens, Routed}
use Rattle.rkt_exchange.specs.Relations.{Relations, callbacks}
use Rattle.rkt_exchange.specs.Tables.{SeenTables, table_of}
use Rattle.rkt_exchange.specs.declared.ended.EndedOf.{EndedOf}
use Rattle.rkt_exchange.specs.declared.ended.EndedOf.TheVariants as ended
use Rattle.rkt_exchange.specs.declared.peeking.PeekingOf.{PeekingOf}
use Rattle.rkt_exchange.specs.declared.phase.Phase.{Phase}
use Rattle.rkt_exchange.specs.declared.phase.Phase.TheVariants as phase

-- a moment is that of a Gate that fits the rule
abbrev pub IsMoment : GateRule → ℕ → Type 0
IsMoment rule moment = (gate : Gate) × GateFits rule gate × (gate.moment ≡ moment)

-- it is bad
abbrev pub IsBad : List Bad → Type 0
IsBad faults = (fault : Bad) × (others : List Bad) × (faults ≡ fault ∷ others)

-- a request whose body was peeked at, as fairings are lent it
abbrev pub opened_at : {V B C : Type 0} → PeekingOf (Seen V) B (Lent C) → RequestAt V B C
opened_at opened = record { request = opened.request; body = opened.body; kept = opened.ctx.kept }

-- what was found, as it is lent
abbrev pub found_of : {V C S : Type 0} → Live (Seen V) (Lent C) → ResponseOf S → Found V C S
found_of live response = record { response = response; request = live.request; kept = live.ctx.kept }

-- where an exchange stands, as contracts see it
abbrev pub SeenPhase : (V B C S F FTask GTask H HTask K KTask N : Type 0) → Type 0
SeenPhase V B C S F FTask GTask H HTask K KTask N =
    Phase (PeekingOf (Seen V) B (Lent C)) (Asks V B C F FTask) (Holding V B C H HTask K KTask N) (Answers V C S F GTask)

-- an exchange as contracts see it
pub record SeenExchange (V B C S F FTask GTask H HTask K KTask N : Type 0) : Type 0 where
  pub tables : SeenTables F H K N V
  pub phase : Option (SeenPhase V B C S F FTask GTask H HTask K KTask N)

module _ {V B C S F FTask GTask H HTask K KTask N : Type 0} (rel : Relations V B C S F FTask GTask H HTask K KTask)
    (first : Beginning V B C) (tables : SeenTables F H K N V) where
  -- a request has its method
  pub record WasOpened (opened : RequestAt V B C) : Type 0 where
    pub good : first.faults ≡ []
    pub opens : Opens rel first.at opened

  -- and the fairings were called for it
  pub record WasAsked (calls : List Call) (asked : RequestAt V B C) : Type 0 where
    pub opened : RequestAt V B C
    pub opens : WasOpened opened
    pub asks : Preprocessed rel tables opened calls asked
    pub backs : Backs first.at.kept.shutdown asked.kept.shutdown calls

  -- and it was routed, and its response finalized at a moment; `head` says whether its method was HEAD
  pub record WasRouted (calls : List Call) (head : Bool) (moment : ℕ) (out : Outgoing V C S) : Type 0 where
    pub asked : RequestAt V B C
    pub found : Found V C S
    pub before : List Call
    pub between : List Call
    pub calls_are : calls ≡ before ++ between
    pub asks : WasAsked before asked
    pub finds : Routed rel tables [] asked between found
    pub head_is : head ≡ is_head asked.request.method
    pub moment_is : IsMoment rel.gates moment
    pub out_is : out ≡ finalized tables.config.ident moment found
    pub backs : Backs first.at.kept.shutdown out.at.kept.shutdown calls

  -- it was routed to this, behind these calls
  pub record WasFound (calls : List Call) (head : Bool) (live : Live (Seen V) (Lent C)) (response : ResponseOf S) : Type 0 where
    pub asked : RequestAt V B C
    pub asks : WasAsked calls asked
    pub head_is : head ≡ is_head asked.request.method
    pub finds : Routed rel tables [] asked live.calls (found_of live response)
    pub backs : Backs asked.kept.shutdown live.ctx.kept.shutdown live.calls

  -- a body is being peeked at: what a peek that goes on from here may leave and show, one from the beginning may
  pub record IsPeeking (peeking : PeekingOf (Seen V) B (Lent C)) : Type 0 where
    pub good : first.faults ≡ []
    pub request : peeking.request ≡ first.at.request
    pub kept : peeking.ctx.kept ≡ first.at.kept
    pub leads : (front : List ℕ) (after : B) → rel.peeks peeking.body front after → rel.peeks first.at.body front after

  -- fairings are being called for a request
  pub record IsAsking (asks : Asks V B C F FTask) : Type 0 where
    pub opened : RequestAt V B C
    pub opens : WasOpened opened
    pub fairings : asks.fairings ≡ tables.fairings
    pub turns : asks.turns ≡ tables.config.turns
    pub stands : AskInvariant rel.requests rel.gates tables.fairings tables.config.turns opened asks.lent asks.next

  -- it is being routed
  pub record IsRouting (routing : Holding V B C H HTask K KTask N) (calls : List Call) (head : Bool) : Type 0 where
    pub asked : RequestAt V B C
    pub asks : WasAsked calls asked
    pub head_is : head ≡ is_head asked.request.method
    pub table : routing.table ≡ table_of tables
    pub stands : InvariantAt (callbacks rel) (record { at = asked; faults = [] }) (table_of tables) routing.live routing.stage

  -- a bad one is being answered
  pub record IsRefusing (routing : Holding V B C H HTask K KTask N) : Type 0 where
    pub bad : IsBad first.faults
    pub table : routing.table ≡ table_of tables
    pub stands : InvariantAt (callbacks rel) first (table_of tables) routing.live routing.stage

  -- fairings are being called for a response
  pub record IsAnswering (answers : Answers V C S F GTask) (calls : List Call) (head : Bool) (moment : ℕ) : Type 0 where
    pub out : Outgoing V C S
    pub routed : WasRouted calls head moment out
    pub fairings : answers.fairings ≡ tables.fairings
    pub turns : answers.turns ≡ tables.config.turns
    pub stands : AnswerInvariant rel.responses rel.gates tables.fairings tables.config.turns out answers.lent answers.next

  abbrev pub InvariantIn : SeenPhase V B C S F FTask GTask H HTask K KTask N → Type 0
  InvariantIn (phase.Peeking peeking) = IsPeeking peeking
  InvariantIn (phase.Preprocessing asks) = IsAsking asks
  InvariantIn (phase.Routing routing calls head) = IsRouting routing calls head
  InvariantIn (phase.Refusing routing) = IsRefusing routing
  InvariantIn (phase.Finalizing answers calls head moment) = IsAnswering answers calls head moment

  -- how an exchange ends: with a run that leads to its response, and the handle; each word that the run recorded is the one
  -- that the handle has seen, and its moment is that of a Gate
  pub record IsFinished (calls : List Call) (over : Over C S) : Type 0 where
    pub lifecycle : Lifecycle rel tables first calls over
    pub moment : IsMoment rel.gates over.moment
    pub backs : Backs first.at.kept.shutdown over.kept.shutdown calls

  abbrev pub EndsSo : EndedOf C S Handle → Type 0
  EndsSo (ended.Finished run response shutdown) =
      IsFinished run.calls (record {
        kept = record { jar = run.jar; cache = run.cache; shutdown = shutdown };
        moment = run.moment;
        response = response;
      })
  EndsSo (ended.Starved shutdown) = HandsBack first.at.kept.shutdown shutdown

  -- an exchange stands so, unless it has ended
  abbrev pub InvariantFor : Option (SeenPhase V B C S F FTask GTask H HTask K KTask N) → Type 0
  InvariantFor None = ⊤
  InvariantFor (Some now) = InvariantIn now

  -- where the source of a body is Pending in the poll under a Gate that leads from one body to the other as `waits` says
  module _ (waits : Gate → B → B → Type 0) where
    -- a callback or the source of the body was Pending, and this is the Gate of its last poll
    abbrev pub WaitsIn : Gate → SeenPhase V B C S F FTask GTask H HTask K KTask N → Type 0
    WaitsIn gate (phase.Peeking peeking) =
        (before : B) × IsPeeking (record peeking { body = before }) × waits gate before peeking.body
    WaitsIn gate (phase.Preprocessing asks) =
        (opened : RequestAt V B C)
        × AskPends rel.requests rel.gates tables.fairings tables.config.turns opened gate asks.lent asks.next
    WaitsIn gate (phase.Routing routing calls head) =
        (routing.live.ctx.gate ≡ gate)
        × (asked : RequestAt V B C)
        × WaitsAt (callbacks rel) (record { at = asked; faults = [] }) (table_of tables) routing.live routing.stage
    WaitsIn gate (phase.Refusing routing) =
        (routing.live.ctx.gate ≡ gate) × WaitsAt (callbacks rel) first (table_of tables) routing.live routing.stage
    WaitsIn gate (phase.Finalizing answers calls head moment) =
        (out : Outgoing V C S)
        × AnswerPends rel.responses rel.gates tables.fairings tables.config.turns out gate answers.lent answers.next

    -- what a poll under a Gate gives
    abbrev pub PolledGives : Gate → Progress (SeenPhase V B C S F FTask GTask H HTask K KTask N) (EndedOf C S Handle) → Type 0
    PolledGives gate (progress.Pending now) = InvariantIn now × WaitsIn gate now
    PolledGives gate (progress.Ready over) = EndsSo over

    -- the same of an exchange
    abbrev pub ExchangeGives : Gate → Option (SeenPhase V B C S F FTask GTask H HTask K KTask N) → Poll (EndedOf C S Handle)
        → Type 0
    ExchangeGives gate phase poll.Pending = IsSomeAnd phase (λ now. InvariantIn now × WaitsIn gate now)
    ExchangeGives gate phase (poll.Ready over) = EndsSo over
