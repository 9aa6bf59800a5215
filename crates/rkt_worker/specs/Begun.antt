-- Where an exchange with a link begins, and under which Gates it is polled.
use Rattle.std.specs.Prelude.{◌≡◌, ℕ, List, Option, None, IsSome}
use Rattle.rkt_source.specs.Cancel.{Cancellable}
use Rattle.rkt_cookie.specs.Jar.{JarParts}
use Rattle.rkt_data.specs.Body.{Body}
use Rattle.rkt_exchange.specs.Beginning.{beginning}
use Rattle.rkt_exchange.specs.Relations.{Relations}
use Rattle.rkt_exchange.specs.Invariant.{SeenExchange, InvariantFor}
use Rattle.rkt_exchange.specs.Tables.{SeenTables}
use Rattle.rkt_request.specs.Incoming.{IsIncoming}
use Rattle.rkt_request.specs.Seen.{Seen}
use Rattle.rkt_request.specs.declared.bad.Bad.{Bad}
use Rattle.rkt_request.specs.declared.head.Head.{Head}
use Rattle.rkt_router.specs.Calls.{GateFits, GateRule}
use Rattle.rkt_source.specs.declared.source.Gate.{Gate}
use Rattle.rkt_turn.specs.Shutdown.{Handle}
use Rattle.rkt_link.specs.Clock.{ClockMeaning, IsAmid}
use Rattle.rkt_board.specs.Turns.{gate_with}
use Rattle.rkt_worker.specs.Lifecycle.{body_from}

-- one without a trip, with the configuration's delays
abbrev pub gate_at : {F H K N V : Type 0} → SeenTables F H K N V → ℕ → Gate
gate_at tables moment = gate_with moment None tables.config.grace tables.config.mercy

-- all Gates with these delays fit a rule whose moments a clock may have told meanwhile, and which show a trip only
-- where this one was seen by then
abbrev pub AllFit : GateRule → ℕ → ℕ → ClockMeaning → ClockMeaning → Option ℕ → Type 0
AllFit rule grace mercy old new seen =
    (moment : ℕ) (tripped : Option ℕ)
    → IsAmid old new moment
    → (IsSome tripped → IsSome seen)
    → GateFits rule (gate_with moment tripped grace mercy)

-- an exchange stands where what a head asks begins, with the body of this source and with this handle
pub record IsBegun {V S C R F FTask GTask H HTask K KTask N : Type 0}
    (callbacks : GateRule → Relations V (Body (Cancellable S)) C R F FTask GTask H HTask K KTask)
    (tables : SeenTables F H K N V) (head : Head) (source : S) (handle : Handle)
    (exchange : SeenExchange V (Body (Cancellable S)) C R F FTask GTask H HTask K KTask N) : Type 0 where
  pub request : Seen V
  pub jar : JarParts
  pub faults : List Bad
  pub incoming : IsIncoming head tables.config tables.managed request jar faults
  pub going : IsSome exchange.phase
  pub same : exchange.tables ≡ tables
  pub stands : (rule : GateRule) →
      InvariantFor (callbacks rule) (beginning request jar faults (body_from source) handle) exchange.tables exchange.phase
