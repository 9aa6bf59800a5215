-- Two whole calls of a route or of a catcher of the sample, of what is alike, come to one thing, whatever words `/stop` tells.
use Rattle.std.proofs.Common.{◌≡◌, ℕ, List, Bool, true, false, Option, Some, None, Result, refl, sym, subst}
use Rattle.rkt_http.specs.declared.status.Status.{Status}
use Rattle.rkt_message.specs.Response.{ResponseOf}
use Rattle.rkt_message.specs.declared.content.Content.{Content}
use Rattle.rkt_message.specs.declared.content.Content.TheVariants as content
use Rattle.rkt_request.specs.Lent.{Kept}
use Rattle.rkt_request.specs.Seen.{Seen}
use Rattle.rkt_router.specs.Callbacks.{Handed, Refused, Reply}
use Rattle.rkt_router.specs.Calls.{GateRule, Made}
use Rattle.rkt_router.specs.Page.{page_of}
use Rattle.rkt_router.specs.declared.turn.Final.{Final}
use Rattle.rkt_routing.specs.Relations.{relations}
use Rattle.rkt_routing.specs.Routed.{turns_of}
use Rattle.rkt_routing.specs.Table.{SeenTable}
use Rattle.rkt_routing.specs.MakingLaws.{some_turns}
use Rattle.rkt_sample.specs.Bodies.{IsUncutBody, SampleBody, string_limit, text_in, whole}
use Rattle.rkt_sample.specs.Calm.{IsCalm}
use Rattle.rkt_sample.specs.Catching.{answer_of, catch_calling}
use Rattle.rkt_sample.specs.Catching as catching
use Rattle.rkt_sample.specs.Greeting.{greeting}
use Rattle.rkt_sample.specs.MadeLaws.{catcher_made, route_made}
use Rattle.rkt_sample.specs.Replies.{echoes, greets, reply_of}
use Rattle.rkt_sample.specs.Routing.{route_calling}
use Rattle.rkt_sample.specs.declared.catcher.SampleCatcher.{SampleCatcher}
use Rattle.rkt_sample.specs.declared.catcher.SampleCatcher.TheVariants as catcher
use Rattle.rkt_sample.specs.declared.route.SampleRoute.{SampleRoute}
use Rattle.rkt_sample.specs.declared.route.SampleRoute.TheVariants as route
use Rattle.rkt_source.specs.Memory.{SourceInMemory, source_meaning}
use Rattle.rkt_demo.proofs.Cookies.{AddedAlike, added_alike, left_alike, settled_alike}
use Rattle.rkt_demo.proofs.Once.{Spelling, page_once}
use Rattle.rkt_demo.proofs.RoutedOnce.{CallsAlike, CallsOnce, Likeness, SameAnswer, SameReply}

abbrev pub Body : Type 0
Body = SampleBody SourceInMemory

abbrev pub Response : Type 0
Response = ResponseOf SourceInMemory

-- two bodies have the same bytes, and neither was cut off under Gates of a rule of its own
pub record BodiesAlike (rule rule' : GateRule) (one other : Body) : Type 0 where
  pub bytes : whole source_meaning other ≡ whole source_meaning one
  pub uncut : IsUncutBody source_meaning rule one
  pub uncut_too : IsUncutBody source_meaning rule' other

-- it has no source
abbrev pub IsAtHand : Content SourceInMemory → Type 0
IsAtHand (content.Streamed stream) = ⊥
IsAtHand _ = Unit {0}

abbrev pub HasNoSource : Response → Type 0
HasNoSource response = IsAtHand response.body.content

abbrev pub like : GateRule → GateRule → Likeness Body ℕ SourceInMemory
like rule rule' = record { bodies = BodiesAlike rule rule'; kept = AddedAlike; good = HasNoSource }

module _ (rule rule' : GateRule) (request : Seen ℕ) (body body' : Body) (bodies : BodiesAlike rule rule' body body') where
  greets_alike : (text : Option (List ℕ)) → SameReply (like rule rule') (greets body text) (greets body' text)
  greets_alike (Some text) = (refl, tt)
  greets_alike None = (body', bodies, refl)

  echoes_same : (text : Option (List ℕ)) → SameReply (like rule rule') (echoes text) (echoes text)
  echoes_same (Some text) = (refl, tt)
  echoes_same None = refl

  abbrev with_body : Body → Handed ℕ Body
  with_body b = record { request = request; body = b }

  replies_alike : (route : SampleRoute) → SameReply (like rule rule') (reply_of source_meaning route (with_body body)) (reply_of source_meaning route (with_body body'))
  replies_alike route.Hello = greets_alike (greeting request)
  replies_alike route.Page = (refl, tt)
  replies_alike route.HeadPage = (body', bodies, refl)
  replies_alike route.HeadGone = (body', bodies, refl)
  replies_alike route.PostForm = (refl, tt)
  replies_alike route.DeleteForm = (refl, tt)
  replies_alike route.Trial = (body', bodies, refl)
  replies_alike route.Tried = (refl, tt)
  replies_alike route.Spoiled = refl
  replies_alike route.Flash = (refl, tt)
  replies_alike route.Echo =
      let limit : ℕ = string_limit request.config.limits in
      subst (λ (bytes : Option (List ℕ)). SameReply (like rule rule') (echoes (text_in limit (whole source_meaning body))) (echoes (text_in limit bytes))) (sym bodies.bytes) (echoes_same (text_in limit (whole source_meaning body)))
  replies_alike route.Stop = (refl, tt)
  replies_alike route.Broken = (refl, tt)

answers_alike : (rule rule' : GateRule) (catcher : SampleCatcher) (status : Status) → SameAnswer (like rule rule') (answer_of catcher status) (answer_of catcher status)
answers_alike rule rule' catcher.NotFound status = (refl, tt)
answers_alike rule rule' catcher.Default status = (refl, tt)
answers_alike rule rule' catcher.BadNotFound status = refl
answers_alike rule rule' catcher.BadFailed status = refl

pub page_at_hand : (json : Bool) (code : ℕ) → HasNoSource (page_of json code)
page_at_hand true code = tt
page_at_hand false code = tt

module _ (laws : Spelling) (word word' : ℕ) (rule rule' : GateRule) (calm : IsCalm rule) (calm' : IsCalm rule') (table : SeenTable SampleRoute SampleCatcher (Unit {0})) where
  abbrev Reply' : Type 0
  Reply' = Reply SourceInMemory Body

  handled_once : (handler : SampleRoute) (request : Seen ℕ) (body body' : Body) (before before' after after' : Kept ℕ) (reply reply' : Final Reply') → BodiesAlike rule rule' body body' → AddedAlike before before'
      → Made (route_calling source_meaning word) rule (turns_of table) handler (record { request = request; body = body }) before reply after
      → Made (route_calling source_meaning word') rule' (turns_of table) handler (record { request = request; body = body' }) before' reply' after' → CallsAlike (like rule rule') (SameReply (like rule rule')) reply reply' after after'
  handled_once handler request body body' before before' after after' reply reply' bodies kepts made made' =
      let one = route_made rule (turns_of table) (some_turns table.turns) SourceInMemory before after source_meaning word handler (record { request = request; body = body }) reply calm bodies.uncut made in
      let other = route_made rule' (turns_of table) (some_turns table.turns) SourceInMemory before' after' source_meaning word' handler (record { request = request; body = body' }) reply' calm' bodies.uncut_too made' in
      record {
        answer = reply_of source_meaning handler (record { request = request; body = body });
        other = reply_of source_meaning handler (record { request = request; body = body' });
        is = one.0;
        other_is = other.0;
        same = replies_alike rule rule' request body body' bodies handler;
        kept = rw (one.1, other.1) (left_alike word word' handler before before' kepts);
      }

  caught_once : (catcher : SampleCatcher) (refused : Refused ℕ) (before before' after after' : Kept ℕ) (answer answer' : Final (Result Response Status)) → AddedAlike before before'
      → Made catch_calling rule (turns_of table) catcher refused before answer after → Made catch_calling rule' (turns_of table) catcher refused before' answer' after' → CallsAlike (like rule rule') (SameAnswer (like rule rule')) answer answer' after after'
  caught_once catcher refused before before' after after' answer answer' kepts made made' =
      let one = catcher_made rule (turns_of table) (some_turns table.turns) SourceInMemory before after catcher refused answer made in
      let other = catcher_made rule' (turns_of table) (some_turns table.turns) SourceInMemory before' after' catcher refused answer' made' in
      record {
        answer = answer_of catcher refused.status;
        other = answer_of catcher refused.status;
        is = one.0;
        other_is = other.0;
        same = answers_alike rule rule' catcher refused.status;
        kept = rw (one.1, other.1) (added_alike (catching.added_by catcher) before before' kepts);
      }

  pub calls_once : CallsOnce {V = ℕ} (like rule rule') (relations (route_calling source_meaning word) catch_calling rule) (relations (route_calling source_meaning word') catch_calling rule') table
  calls_once = record {
    handled = handled_once;
    caught = caught_once;
    page = page_once laws;
    page_good = λ code request page is. rw is.2 (page_at_hand is.0 code);
    settles = settled_alike;
  }
