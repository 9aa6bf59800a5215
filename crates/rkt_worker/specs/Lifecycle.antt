-- One exchange, from what a link asks to the response.
use Rattle.std.specs.Prelude.{List, [], Some, false}
use Rattle.rkt_source.specs.Cancel.{Cancellable}
use Rattle.rkt_source.specs.declared.stage.Stage.TheVariants.{Active}
use Rattle.rkt_cookie.specs.Jar.{JarParts}
use Rattle.rkt_data.specs.Body.{Body}
use Rattle.rkt_exchange.specs.Beginning.{Over, beginning}
use Rattle.rkt_exchange.specs.Lifecycle.{Lifecycle as Leads}
use Rattle.rkt_exchange.specs.Relations.{Relations}
use Rattle.rkt_exchange.specs.Tables.{SeenTables}
use Rattle.rkt_exchange.specs.declared.ended.RunOf.{RunOf}
use Rattle.rkt_message.specs.Response.{ResponseOf}
use Rattle.rkt_request.specs.Incoming.{IsIncoming}
use Rattle.rkt_request.specs.Seen.{Seen}
use Rattle.rkt_request.specs.declared.bad.Bad.{Bad}
use Rattle.rkt_routing.specs.Backs.{Backs}
use Rattle.rkt_source.specs.Source.{Meaning}
use Rattle.rkt_turn.specs.Shutdown.{Handle}
use Rattle.rkt_link.specs.Asked.{Asked, IsUntouched, GivesBody}

-- an object that may be cut off, and was not called yet
abbrev pub uncalled : {I : Type 0} → I → Cancellable I
uncalled io = record { stage = Active; io = io }

-- the body that a source gives, of which nothing is read
abbrev pub body_from : {S : Type 0} → S → Body (Cancellable S)
body_from source =
    record { held = []; tap = Some (record { now = uncalled source; begun = uncalled source }); complete = false }

-- a run as the end of an exchange, with the wire's handle that it hands back
abbrev pub over_as : {C R : Type 0} → RunOf C → ResponseOf R → Handle → Over C R
over_as run response handle =
    record { kept = record { jar = run.jar; cache = run.cache; shutdown = handle }; moment = run.moment; response = response }

-- what is asked leads by this run to this response: the request of the head, where the tables lend what they have, with the
-- body that an untouched source gives
pub record Lifecycle {V S C R F FTask GTask H HTask K KTask N : Type 0}
    (rel : Relations V (Body (Cancellable S)) C R F FTask GTask H HTask K KTask) (tables : SeenTables F H K N V)
    (sources : S → Meaning) (asked : Asked) (run : RunOf C) (response : ResponseOf R) : Type 0 where
  pub request : Seen V
  pub jar : JarParts
  pub faults : List Bad
  pub incoming : IsIncoming asked.head tables.config tables.managed request jar faults
  pub source : S
  pub untouched : IsUntouched (sources source)
  pub gives : GivesBody asked (sources source)
  -- the wire's handle that it was given, and the one that it hands back
  pub before : Handle
  pub after : Handle
  pub leads : Leads rel tables (beginning request jar faults (body_from source) before) run.calls (over_as run response after)
  pub backs : Backs before after run.calls
