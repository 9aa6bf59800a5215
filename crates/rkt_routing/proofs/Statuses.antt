-- How a status is answered.
use Rattle.std.specs.Prelude.{◌≡◌, ◌++◌, ◌==◌, ◌+◌, ◌<◌, ℕ, [], ◌∷◌, false, Some, None, Result, Ok, Err, slice_get}
use Rattle.std.proofs.Common.{refl, sym, ap, subst}
use Rattle.rkt_http.specs.declared.status.Status.{Status}
use Rattle.rkt_message.specs.Response.{ResponseOf}
use Rattle.rkt_request.specs.Lent.{Kept, Lent, Grows}
use Rattle.rkt_request.specs.LentLaws.{grows_same}
use Rattle.rkt_request.specs.Seen.{Seen}
use Rattle.rkt_route.specs.declared.catcher.Catcher.{Catcher}
use Rattle.rkt_route.specs.declared.catcher.Catching.TheVariants.{Rocket, App}
use Rattle.rkt_router.specs.Calling.{Polls, Starts}
use Rattle.rkt_router.specs.CallLaws.{making_begins}
use Rattle.rkt_router.specs.Calls.{GateFits, Made, Making, OnceOver, PolledAs}
use Rattle.rkt_router.specs.Catchers.{IsChosen}
use Rattle.rkt_router.specs.Page.{IsDefaultPage}
use Rattle.rkt_router.specs.declared.step.Step.TheVariants as step
use Rattle.rkt_router.specs.declared.turn.Final.{Final}
use Rattle.rkt_router.specs.declared.turn.Final.TheVariants as final
use Rattle.rkt_router.specs.declared.turn.Polled.{Polled}
use Rattle.rkt_router.specs.declared.turn.Polled.TheVariants as turn
use Rattle.rkt_routing.specs.Beginning.{Beginning}
use Rattle.rkt_dispatch.specs.Finalizing.{settled}
use Rattle.rkt_routing.specs.Routed.{Catches, CatcherReplies, turns_of}
use Rattle.rkt_routing.specs.Recorded.{recorded, catcher_answer}
use Rattle.rkt_routing.specs.Relations.{Relations}
use Rattle.rkt_routing.specs.Invariant.{Answered, Called, CatcherTurned, Catching, Caught, Chosen, Pages, InvariantAt, WaitsAt}
use Rattle.rkt_routing.specs.declared.run.Call.{Call}
use Rattle.rkt_routing.specs.declared.run.Which.TheVariants as which
use Rattle.rkt_routing.specs.declared.stage.Live.{Live}
use Rattle.rkt_routing.specs.declared.stage.Stage.TheVariants as stage
use Rattle.rkt_routing.specs.Table.{SeenTable}
use Rattle.rkt_routing.specs.MakingLaws.{pends, some_turns}
use Rattle.rkt_routing.proofs.InvokesCatcher.{between_call, between_on}

module _ {V B C S H HTask K KTask N : Type 0} (rel : Relations V B C S H HTask K KTask) (first : Beginning V B C) (table : SeenTable H K N) where
  -- no catcher is chosen
  pub catch_none : (live : Live (Seen V) (Lent C)) (ctx : Lent C) (status : Status) → ctx.kept ≡ settled live.ctx.kept → IsChosen table.router.catchers status.code live.request None
      → InvariantAt rel first table live (stage.Catch status) → Pages rel first table (record live { ctx = ctx }) status.code
  catch_none live ctx status kept_is none stands =
      rw kept_is (between_on rel first table live.ctx.kept (settled live.ctx.kept) live.calls _ _ refl (λ rest found done. (None, none, done)) stands)

  -- one is chosen
  pub catch_some : (live : Live (Seen V) (Lent C)) (ctx : Lent C) (status : Status) (position : ℕ) → ctx.kept ≡ settled live.ctx.kept → IsChosen table.router.catchers status.code live.request (Some position)
      → InvariantAt rel first table live (stage.Catch status) → Chosen rel first table (record live { ctx = ctx }) ctx.kept status (Some position)
  catch_some live ctx status position kept_is chosen stands =
      rw kept_is (between_on rel first table live.ctx.kept (settled live.ctx.kept) live.calls _ _ refl (λ rest found done. (Some position, chosen, done)) stands)

  -- and its call begins
  pub catching_begins : (live : Live (Seen V) (Lent C)) (status : Status) (position : ℕ) (catcher : Catcher K) (handler : K) (task : KTask)
      → slice_get table.router.catchers position ≡ Some catcher → catcher.handler ≡ App handler → Starts rel.catchers handler (record { status = status; request = live.request }) task
      → Chosen rel first table live live.ctx.kept status (Some position) → InvariantAt rel first table live (stage.Catching (record { status = status; position = position; task = task; turn = 0 }))
  catching_begins live status position catcher handler task found handles starts chosen = record {
    before = live.ctx.kept;
    catcher = catcher;
    handler = handler;
    found = found;
    handles = handles;
    chosen = chosen;
    making = making_begins rel.catchers rel.gates (turns_of table) handler (record { status = status; request = live.request }) {before = live.ctx.kept} {task = task} (some_turns table.turns) starts;
  }

  -- the default page answers
  pub page_answers : (live : Live (Seen V) (Lent C)) (code : ℕ) (page : ResponseOf S) → IsDefaultPage code live.request page → Pages rel first table live code → Answered rel first table live page
  page_answers live code page is pages = between_on rel first table live.ctx.kept live.ctx.kept live.calls _ _ refl (λ rest found done. (page, is, done)) pages

  -- as the reply of a catcher that has no handler of its own
  pub page_called : (live : Live (Seen V) (Lent C)) (status : Status) (position : ℕ) (catcher : Catcher K) (page : ResponseOf S) → slice_get table.router.catchers position ≡ Some catcher
      → catcher.handler ≡ Rocket → IsDefaultPage status.code live.request page → Chosen rel first table live live.ctx.kept status (Some position)
      → Called rel first table live status position (final.Done (Ok page))
  page_called live status position catcher page found handles is chosen = record {
    before = live.ctx.kept;
    catcher = catcher;
    found = found;
    chosen = chosen;
    grows = grows_same live.ctx.kept live.ctx.kept refl;
    made = subst (λ h. CatcherReplies rel table h status live.request live.ctx.kept (final.Done (Ok page)) live.ctx.kept) (sym handles) (page, is, refl, refl);
  }

  -- a catcher was Pending
  pub catching_waits : (live : Live (Seen V) (Lent C)) (ctx : Lent C) (status : Status) (position : ℕ) (task task' : KTask) (turn : ℕ) (catcher : Catcher K) (handler : K)
      → ctx.gate ≡ live.ctx.gate → slice_get table.router.catchers position ≡ Some catcher → catcher.handler ≡ App handler → turn + 1 < turns_of table → GateFits rel.gates live.ctx.gate
      → ((status : Status) → Polls rel.catchers handler (record { status = status; request = live.request }) task live.ctx.kept live.ctx.gate step.Pending task' ctx.kept)
      → Catching rel first table live status position task turn → WaitsAt rel first table (record live { ctx = ctx }) (stage.Catching (record { status = status; position = position; task = task'; turn = turn + 1 }))
  catching_waits live ctx status position task task' turn catcher handler gate_is found handles more fits polls was =
      let same : handler ≡ was.handler = cc (found, was.found, handles, was.handles) in
      let after =
      pends rel.catchers rel.gates (turns_of table) was.handler (record { status = status; request = live.request }) was.before live.ctx.kept ctx.kept live.ctx.gate task task' turn more fits was.making
      (subst (λ h. Polls rel.catchers h (record { status = status; request = live.request }) task live.ctx.kept live.ctx.gate step.Pending task' ctx.kept) same (polls status)) in (
        record {
          before = was.before;
          catcher = was.catcher;
          handler = was.handler;
          found = was.found;
          handles = was.handles;
          chosen = was.chosen;
          making = after.0;
        },
        (was.making.gates, rw gate_is after.1),
      )

  once_app : (reply : Final (Result (ResponseOf S) Status)) {P Q : Type 0} → (P → Q) → OnceOver reply P → OnceOver reply Q
  once_app (final.Done answer) f p = f p
  once_app final.FailedTurn f p = f p
  once_app final.Starved f p = tt

  -- a catcher's call is over
  pub catching_called : (live live' : Live (Seen V) (Lent C)) (status : Status) (position : ℕ) (task : KTask) (turn : ℕ) (reply : Final (Result (ResponseOf S) Status))
      → live'.request ≡ live.request → live'.calls ≡ live.calls
      → (was : Catching rel first table live status position task turn)
      → Grows was.before live'.ctx.kept
      → OnceOver reply (Made rel.catchers rel.gates (turns_of table) was.handler (record { status = status; request = live.request }) was.before reply live'.ctx.kept)
      → Called rel first table live' status position reply
  catching_called live live' status position task turn reply request_is calls_is was grows made = record {
    before = was.before;
    catcher = was.catcher;
    found = was.found;
    chosen = rw (request_is, calls_is) was.chosen;
    grows = grows;
    made = once_app reply (λ m. subst (λ h. CatcherReplies rel table h status live'.request was.before reply live'.ctx.kept) (sym was.handles) (rw request_is m)) made;
  }

  -- its handler's call is under way
  pub catching_makes : (live : Live (Seen V) (Lent C)) (status : Status) (position : ℕ) (task : KTask) (n : ℕ) (handler : K) (turns : ℕ) → turns ≡ turns_of table
      → (was : Catching rel first table live status position task n) → was.catcher.handler ≡ App handler
      → Making rel.catchers rel.gates turns handler (record { status = status; request = live.request }) was.before task live.ctx.kept n
  catching_makes live status position task n handler turns turns_is was handles =
      let same : handler ≡ was.handler = cc (handles, was.handles) in
      subst (λ t. Making rel.catchers rel.gates t handler (record { status = status; request = live.request }) was.before task live.ctx.kept n) (sym turns_is)
      (subst (λ h. Making rel.catchers rel.gates (turns_of table) h (record { status = status; request = live.request }) was.before task live.ctx.kept n) (sym same) was.making)

  -- a turn of its call was made, of which there are so many
  pub catching_turned : (live : Live (Seen V) (Lent C)) (ctx : Lent C) (status : Status) (position : ℕ) (task task' : KTask) (n : ℕ) (catcher : Catcher K) (handler : K) (turns : ℕ) (made : Polled (Result (ResponseOf S) Status))
      → turns ≡ turns_of table → slice_get table.router.catchers position ≡ Some catcher → catcher.handler ≡ App handler → ctx.gate ≡ live.ctx.gate → GateFits rel.gates live.ctx.gate
      → (made ≡ turn.Pending → n + 1 < turns)
      → (made ≡ turn.Pending → (status : Status) → Polls rel.catchers handler (record { status = status; request = live.request }) task live.ctx.kept live.ctx.gate step.Pending task' ctx.kept)
      → ((status : Status) (before : Kept C) → Making rel.catchers rel.gates turns handler (record { status = status; request = live.request }) before task live.ctx.kept n → Grows before ctx.kept)
      → ((status : Status) (before : Kept C) → Making rel.catchers rel.gates turns handler (record { status = status; request = live.request }) before task live.ctx.kept n
      → PolledAs rel.catchers rel.gates turns handler (record { status = status; request = live.request }) before made task' ctx.kept (n + 1))
      → Catching rel first table live status position task n
      → CatcherTurned rel first table (record live { ctx = ctx }) (record { status = status; position = position; task = task'; turn = n + 1 }) made
  catching_turned live ctx status position task task' n catcher handler turns turn.Pending turns_is found handles gate_is fits left pending grows gives was =
      catching_waits live ctx status position task task' n catcher handler gate_is found handles (subst (λ t. n + 1 < t) turns_is (left refl)) fits (pending refl) was
  catching_turned live ctx status position task task' n catcher handler turns (turn.Over reply) turns_is found handles gate_is fits left pending grows gives was =
      let same : handler ≡ was.handler = cc (found, was.found, handles, was.handles) in
      let making = subst (λ t. Making rel.catchers rel.gates t handler (record { status = status; request = live.request }) was.before task live.ctx.kept n) (sym turns_is)
      (subst (λ h. Making rel.catchers rel.gates (turns_of table) h (record { status = status; request = live.request }) was.before task live.ctx.kept n) (sym same) was.making) in
      catching_called live (record live { ctx = ctx }) status position task n reply refl refl was (grows status was.before making)
      (subst (λ h. OnceOver reply (Made rel.catchers rel.gates (turns_of table) h (record { status = status; request = live.request }) was.before reply ctx.kept)) same
      (subst (λ t. OnceOver reply (Made rel.catchers rel.gates t handler (record { status = status; request = live.request }) was.before reply ctx.kept)) turns_is
      (gives status was.before making)))

  catches_once : {P : Type 0} (reply : Final (Result (ResponseOf S) Status)) (caught : ResponseOf S → Type 0) (failed : Type 0) → Catches reply caught failed → OnceOver reply P → P
  catches_once (final.Done (Ok response)) caught failed catches p = p
  catches_once (final.Done (Err status)) caught failed catches p = p
  catches_once final.FailedTurn caught failed catches p = p
  catches_once final.Starved caught failed catches p = absurd catches

  -- and recorded
  pub called_caught : (live live' : Live (Seen V) (Lent C)) (status : Status) (position : ℕ) (reply : Final (Result (ResponseOf S) Status)) (call : Call)
      → live'.request ≡ live.request → live'.ctx ≡ live.ctx → live'.calls ≡ live.calls ++ call ∷ []
      → call ≡ recorded (which.Catcher position) (catcher_answer reply) live.ctx.kept
      → Called rel first table live status position reply → Caught rel first table live' status reply
  called_caught live live' status position reply call request_is ctx_is calls_is call_is called =
      rw (request_is, ctx_is) (between_call rel first table called.before live.ctx.kept live.calls live'.calls call _ _ called.grows.shutdown (ap (λ c. c.word) call_is) calls_is
      (λ rest found catches. (
        reply,
        live.ctx.kept,
        record { catcher = called.catcher; found = called.found; made = catches_once reply _ _ catches called.made; kept_as = call_is },
        catches,
      )) called.chosen)

  -- where a reply leads
  pub caught_ok : (live : Live (Seen V) (Lent C)) (status : Status) (reply : Final (Result (ResponseOf S) Status)) (response : ResponseOf S) → reply ≡ final.Done (Ok response)
      → Caught rel first table live status reply → Answered rel first table live response
  caught_ok live status reply response is caught = subst (Caught rel first table live status) is caught

  pub caught_err : (live : Live (Seen V) (Lent C)) (status refused : Status) (reply : Final (Result (ResponseOf S) Status)) → reply ≡ final.Done (Err refused)
      → Caught rel first table live status reply → Caught rel first table live status final.FailedTurn
  caught_err live status refused reply is caught = subst (Caught rel first table live status) is caught

  pub caught_failed : (live : Live (Seen V) (Lent C)) (status : Status) (reply : Final (Result (ResponseOf S) Status)) → reply ≡ final.FailedTurn
      → Caught rel first table live status reply → Caught rel first table live status final.FailedTurn
  caught_failed live status reply is caught = subst (Caught rel first table live status) is caught

  -- where a failure leads
  pub fails_last : (live : Live (Seen V) (Lent C)) (status : Status) → status.code ≡ 500 → Caught rel first table live status final.FailedTurn → Pages rel first table live 500
  fails_last live status is caught = subst (λ s. Caught rel first table live s final.FailedTurn) same caught
    where
      same : status ≡ record { code = 500 }
      same = ap (λ n. record { code = n }) is

  pub fails_first : (live : Live (Seen V) (Lent C)) (status : Status) → (status.code == 500) ≡ false → Caught rel first table live status final.FailedTurn
      → InvariantAt rel first table live (stage.Catch (record { code = 500 }))
  fails_first live status other caught = between_on rel first table live.ctx.kept live.ctx.kept live.calls _ _ refl (λ rest found done. rw other done) caught
