-- What the laws of the sample say.
use Rattle.std.specs.Prelude.{◌≡◌, ◌≤◌, ℕ, List, Result, String}
use Rattle.std.specs.Result.{result_ok}
use Rattle.std.specs.declared.alloc.Global.{Global}
use Rattle.rkt_http.specs.declared.status.Status.{Status}
use Rattle.rkt_message.specs.Response.{ResponseOf}
use Rattle.rkt_request.specs.Lent.{Kept}
use Rattle.rkt_router.specs.Callbacks.{Handed, Refused, Reply}
use Rattle.rkt_router.specs.Calls.{GateRule, Made}
use Rattle.rkt_router.specs.declared.turn.Final.{Final}
use Rattle.rkt_router.specs.declared.turn.Final.TheVariants.{Done}
use Rattle.rkt_source.specs.Memory.{SourceInMemory, source_meaning}
use Rattle.rkt_sample.specs.Added.{AddsOnly, with_added}
use Rattle.rkt_sample.specs.Bodies.{IsUncutBody, SampleBody}
use Rattle.rkt_sample.specs.Calm.{IsCalm}
use Rattle.rkt_sample.specs.Catching as catching
use Rattle.rkt_sample.specs.Greeting.{age_of}
use Rattle.rkt_sample.specs.Replies.{left_by, reply_of}
use Rattle.rkt_sample.specs.Routing.{route_calling}
use Rattle.rkt_sample.specs.declared.catcher.SampleCatcher.{SampleCatcher}
use Rattle.rkt_sample.specs.declared.route.SampleRoute.{SampleRoute}

-- a whole call gave what was expected, and left that, where it did no more than add
pub record ComesTo {A : Type 0} (given expected : Final A) (before after left : Kept ℕ) : Type 0 where
  pub gives : given ≡ expected
  pub leaves : after ≡ left
  pub adds : AddsOnly before after

-- a whole call of a route, of a body that was not cut off and under Gates of a calm rule, is done, and replies what its
-- route does; `/stop` may tell any word
abbrev pub RoutesReply : Type 0
RoutesReply =
    (rule : GateRule) (turns word : ℕ) (route : SampleRoute) (handed : Handed ℕ (SampleBody SourceInMemory))
    (before after : Kept ℕ) (reply : Final (Reply SourceInMemory (SampleBody SourceInMemory)))
    → IsCalm rule
    → 1 ≤ turns
    → IsUncutBody source_meaning rule handed.body
    → Made (route_calling source_meaning word) rule turns route handed before reply after
    → ComesTo reply (Done (reply_of source_meaning route handed)) before after (left_by word route before)

-- a whole call of a catcher is done, and answers what its catcher does
abbrev pub CatchersAnswer : Type 0
CatchersAnswer =
    (rule : GateRule) (turns : ℕ) (catcher : SampleCatcher) (refused : Refused ℕ) (before after : Kept ℕ)
    (answer : Final (Result (ResponseOf SourceInMemory) Status))
    → 1 ≤ turns
    → Made catching.catch_calling rule turns catcher refused before answer after
    → ComesTo answer (Done (catching.answer_of catcher refused.status)) before after
    (with_added (catching.added_by catcher) before)

-- what is read as a small number is the age that the text writes
abbrev pub ReadsAge : (List ℕ → Result ℕ (String Global) → Type 0) → Type 0
ReadsAge Reads = (text : List ℕ) (r : Result ℕ (String Global)) → Reads text r → result_ok r ≡ age_of text
