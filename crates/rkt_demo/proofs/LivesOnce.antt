-- An exchange of the sample makes one response of one request, whatever the moments and the word of `/stop`.
use Rattle.std.proofs.Common.{◌≡◌, ◌==◌, ◌||◌, ℕ, List, [], ◌∷◌, Bool, true, false, Option, Some, codes, if◌then◌else◌, is_some, length, take, refl, ap, ◌∙◌, sym, subst}
use Rattle.std.proofs.lemmas.Option.{same_Some}
use Rattle.std.specs.Prelude.{IsTrue, unwrap_or}
use Rattle.rkt_cookie.specs.Cookie.{Parts}
use Rattle.rkt_router.specs.Callbacks.{RequestAt}
use Rattle.rkt_router.specs.Calls.{GateRule}
use Rattle.rkt_fairing.specs.InSlot.{shielded}
use Rattle.rkt_http.specs.Headers.{group_of}
use Rattle.rkt_http.specs.declared.status.Status.{Status}
use Rattle.rkt_life.specs.declared.no_fairing.NoFairing.{NoFairing}
use Rattle.rkt_exchange.specs.Beginning.{Over}
use Rattle.rkt_dispatch.specs.Finalizing.{pending_cookies, with_body_rule, with_cookies, with_server, without_content}
use Rattle.rkt_exchange.specs.Finalized.{finalized}
use Rattle.rkt_exchange.specs.Lifecycle.{Ends, Lives, Opens}
use Rattle.rkt_dispatch.specs.Overridden.{overridden}
use Rattle.rkt_exchange.specs.Relations.{Relations, callbacks}
use Rattle.rkt_exchange.specs.Tables.{table_of}
use Rattle.rkt_exchange.specs.declared.ended.RunOf.{RunOf}
use Rattle.rkt_media.specs.Media.{Media}
use Rattle.rkt_message.specs.Body.{stripped}
use Rattle.rkt_message.specs.Response.{with_body}
use Rattle.rkt_message.specs.declared.content.Content.{Content}
use Rattle.rkt_message.specs.declared.content.Content.TheVariants as content
use Rattle.rkt_request.specs.Lent.{Kept}
use Rattle.rkt_request.specs.Seen.{IsContentType, Seen}
use Rattle.rkt_request.specs.declared.bad.Bad.{Bad}
use Rattle.rkt_routing.specs.Found.{Found}
use Rattle.rkt_routing.specs.Routed.{Finds, Routes, is_head}
use Rattle.rkt_routing.specs.declared.run.Call.{Call}
use Rattle.rkt_sample.specs.Bodies.{IsUncutBody, whole}
use Rattle.rkt_sample.specs.Calm.{IsCalm}
use Rattle.rkt_sample.specs.declared.catcher.SampleCatcher.{SampleCatcher}
use Rattle.rkt_sample.specs.declared.route.SampleRoute.{SampleRoute}
use Rattle.rkt_link.specs.Asked.{GivesBody, IsUntouched}
use Rattle.rkt_worker.specs.Lifecycle.{body_from, over_as}
use Rattle.rkt_worker.specs.Serving.{callbacks_of, gates_of}
use Rattle.rkt_shield.specs.Shield.{default_headers}
use Rattle.rkt_source.specs.Memory.{SourceInMemory, source_meaning}
use Rattle.rkt_demo.proofs.Cookies.{AddedAlike, OnlyAdds, pending_alike}
use Rattle.rkt_demo.proofs.Once.{Spelling, content_type_once, incomes_alike, tables_once}
use Rattle.rkt_demo.proofs.Opened.{opened_so}
use Rattle.rkt_demo.proofs.RoutedOnce.{SameFound, routes_once}
use Rattle.rkt_demo.proofs.SampleCalls.{BodiesAlike, Body, HasNoSource, IsAtHand, Response, calls_once, like}
use Rattle.rkt_demo.proofs.Sourceless.{routed_at_hand}
use Rattle.rkt_demo.proofs.Shielding.{answered_shielded, asked_nothing}
use Rattle.rkt_demo.specs.Sample.{IsSample, SampleTables}
use Rattle.rkt_demo.specs.Shown.{IsMade, LeadsTo, asked_for, served_in}
use Rattle.rkt_script.specs.Words.{Table}
use Rattle.rkt_script.specs.declared.script.ScriptRequest.{ScriptRequest}

-- what is found is finalized, shielded, and kept to the body rule
abbrev finished : List ℕ → Bool → List Parts → Response → Response
finished ident head cookies response = with_body_rule head (shielded default_headers (with_server ident (with_cookies response cookies)))

-- each of two has no source
either_at_hand : (t : Bool) (one other : Response) → HasNoSource one → HasNoSource other → HasNoSource (if t then one else other)
either_at_hand true one other here there = here
either_at_hand false one other here there = there

stripped_at_hand : (of_ : Content SourceInMemory) (chunk : ℕ) → IsAtHand (stripped (record { content = of_; chunk = chunk })).content
stripped_at_hand content.None chunk = tt
stripped_at_hand content.UnsizedNone chunk = tt
stripped_at_hand (content.Sized rest size) chunk = tt
stripped_at_hand (content.Phantom length size) chunk = tt
stripped_at_hand (content.Streamed stream) chunk = tt

ruled_at_hand : (head : Bool) (response : Response) → HasNoSource response → HasNoSource (with_body_rule head response)
ruled_at_hand head response here =
    either_at_hand (unwrap_or response.status 200 == 204) (without_content response) (if head || (unwrap_or response.status 200 == 304) then with_body response (stripped response.body) else response) tt
    (either_at_hand (head || (unwrap_or response.status 200 == 304)) (with_body response (stripped response.body)) response (stripped_at_hand response.body.content response.body.chunk) here)

named_at_hand : (ident : List ℕ) (response : Response) → HasNoSource response → HasNoSource (with_server ident response)
named_at_hand ident response here = either_at_hand ((length ident == 0) || is_some (group_of response.headers (codes "Server"))) response _ here here

finished_at_hand : (ident : List ℕ) (head : Bool) (cookies : List Parts) (response : Response) → HasNoSource response → HasNoSource (finished ident head cookies response)
finished_at_hand ident head cookies response here = ruled_at_hand head (shielded default_headers (with_server ident (with_cookies response cookies))) (named_at_hand ident (with_cookies response cookies) here)

-- the body that an untouched source gives was not cut off
uncut_from : (rule : GateRule) (source : SourceInMemory) → IsTrue (source_meaning source).never_faults → IsUncutBody source_meaning rule (body_from source)
uncut_from rule source never = record { never_faults = never; stage = tt }

bytes_from : (source : SourceInMemory) (request : ScriptRequest) → IsUntouched (source_meaning source) → GivesBody (asked_for request) (source_meaning source) → whole source_meaning (body_from source) ≡ Some request.body
bytes_from source request untouched gives =
    let bytes : source.bytes ≡ request.body = same_Some source.bytes request.body gives.whole in
    let none : source.at ≡ 0 = untouched.none_taken in
    rw (none, bytes) refl

-- a source of these bytes
record FromSource (source : SourceInMemory) (bytes : List ℕ) : Type 0 where
  pub all : whole source_meaning (body_from source) ≡ Some bytes
  pub never_faults : IsTrue (source_meaning source).never_faults

from_source : (source : SourceInMemory) (request : ScriptRequest) → IsUntouched (source_meaning source) → GivesBody (asked_for request) (source_meaning source) → FromSource source request.body
from_source source request untouched gives = record { all = bytes_from source request untouched gives; never_faults = gives.never_faults }

-- a request with its method, over a body with these bytes
record OpenedAs (rule : GateRule) (request : Seen ℕ) (bytes : List ℕ) (kept : Kept ℕ) (opened : RequestAt ℕ Body ℕ) : Type 0 where
  pub content_type : Option Media
  pub read : IsContentType request.headers content_type
  pub request_is : opened.request ≡ overridden content_type (take 14 bytes) request
  pub all : whole source_meaning opened.body ≡ Some bytes
  pub uncut : IsUncutBody source_meaning rule opened.body
  pub kept_is : opened.kept ≡ kept

-- a jar in which nothing has changed
begun_alike : (one other : Kept ℕ) → one.jar.log ≡ [] → other.jar.log ≡ [] → one.jar.floor ≡ 0 → other.jar.floor ≡ 0 → AddedAlike one other
begun_alike one other log log' floor floor' = record { log = log' ∙ sym log; floor = floor' ∙ sym floor; adds = subst OnlyAdds (sym log) tt }

-- two responses are one, which has no source
abbrev pub OneResponse : Response → Response → Type 0
OneResponse response response' = (response' ≡ response) × HasNoSource response

-- what callbacks mean where `/stop` tells a word, in a window, under Gates that may show a trip or not
abbrev RelOf : SampleTables → ℕ → Option (ℕ × ℕ) → Bool → Relations ℕ Body ℕ SourceInMemory NoFairing (Unit {0}) (Unit {0}) SampleRoute (Option Body) SampleCatcher Status
RelOf tables v w s = callbacks_of (served_in v w) tables s

module _ (table : Table) (tables : SampleTables) (sample : IsSample table tables) (v : ℕ) (w : Option (ℕ × ℕ)) (s : Bool) where
  -- what comes of what was found
  finishes : (at : RequestAt ℕ Body ℕ) (calls : List Call) (over : Over ℕ SourceInMemory) (lives : Lives (RelOf tables v w s) tables at calls over)
      → over.response ≡ finished tables.config.ident (is_head lives.opened.request.method) (pending_cookies lives.found.kept over.moment) lives.found.response
  finishes at calls over lives =
      let asked : lives.asked ≡ lives.opened = asked_nothing (gates_of w tables s) tables.config.turns tables.fairings lives.opened lives.asked lives.before sample.fairings lives.asks in
      let left = answered_shielded (gates_of w tables s) tables.config.turns tables.fairings (finalized tables.config.ident over.moment lives.found) lives.left lives.behind sample.fairings lives.answers in
      let head : is_head lives.asked.request.method ≡ is_head lives.opened.request.method = ap (λ (a : RequestAt ℕ Body ℕ). is_head a.request.method) asked in
      lives.response ∙ ap (λ (h : Bool). with_body_rule h lives.left.response) head ∙ ap (with_body_rule (is_head lives.opened.request.method)) left

  routed_of : (at : RequestAt ℕ Body ℕ) (calls : List Call) (over : Over ℕ SourceInMemory) (lives : Lives (RelOf tables v w s) tables at calls over)
      → Routes (callbacks (RelOf tables v w s)) (table_of tables) [] lives.opened lives.between (Finds lives.found)
  routed_of at calls over lives =
      let asked : lives.asked ≡ lives.opened = asked_nothing (gates_of w tables s) tables.config.turns tables.fairings lives.opened lives.asked lives.before sample.fairings lives.asks in
      subst (λ (a : RequestAt ℕ Body ℕ). Routes (callbacks (RelOf tables v w s)) (table_of tables) [] a lives.between (Finds lives.found)) asked lives.finds

  ends_at_hand : (faults : List Bad) (at : RequestAt ℕ Body ℕ) (calls : List Call) (over : Over ℕ SourceInMemory) → Ends (RelOf tables v w s) tables faults at calls over → HasNoSource over.response
  ends_at_hand [] at calls over lives =
      let found : HasNoSource lives.found.response = routed_at_hand v (gates_of w tables s) (table_of tables) lives.found [] lives.opened lives.between (routed_of at calls over lives) in
      subst HasNoSource (sym (finishes at calls over lives))
      (finished_at_hand tables.config.ident (is_head lives.opened.request.method) (pending_cookies lives.found.kept over.moment) lives.found.response found)
  ends_at_hand (fault ∷ faults) at calls over refuses =
      subst HasNoSource (sym refuses.response) (routed_at_hand v (gates_of w tables s) (table_of tables) refuses.found (fault ∷ faults) at calls refuses.finds)

-- no response that an exchange makes has a source
pub made_at_hand : (table : Table) (word : ℕ) (window : Option (ℕ × ℕ)) (shown : Bool) (request : ScriptRequest) (response : Response) → IsMade table word window shown request response → HasNoSource response
made_at_hand table word window shown request response made =
    let life = made.lifecycle in
    ends_at_hand table made.tables made.sample word window shown life.faults _ made.run.calls (over_as made.run response life.after) life.leads

module _ (laws : Spelling) (word word' : ℕ) (window window' : Option (ℕ × ℕ)) (table : Table) (tables : SampleTables) (sample : IsSample table tables) (shown shown' : Bool)
    (calm : IsCalm (gates_of window tables shown)) (calm' : IsCalm (gates_of window' tables shown')) where
  abbrev Rel : ℕ → Option (ℕ × ℕ) → Bool → Relations ℕ Body ℕ SourceInMemory NoFairing (Unit {0}) (Unit {0}) SampleRoute (Option Body) SampleCatcher Status
  Rel = RelOf tables

  -- bodies that were not cut off, under the Gates of the one and of the other
  abbrev Alike : Body → Body → Type 0
  Alike one other = BodiesAlike (gates_of window tables shown) (gates_of window' tables shown') one other

  abbrev FoundAlike : Found ℕ ℕ SourceInMemory → Found ℕ ℕ SourceInMemory → Type 0
  FoundAlike found found' = SameFound (like (gates_of window tables shown) (gates_of window' tables shown')) found found'

  -- what routing finds of one request
  found_once : (faults : List Bad) (request : Seen ℕ) (body body' : Body) (kept kept' : Kept ℕ) (calls calls' : List Call) (found found' : Found ℕ ℕ SourceInMemory) → Alike body body' → AddedAlike kept kept'
      → Routes (callbacks (Rel word window shown)) (table_of tables) faults (record { request = request; body = body; kept = kept }) calls (Finds found)
      → Routes (callbacks (Rel word' window' shown')) (table_of tables) faults (record { request = request; body = body'; kept = kept' }) calls' (Finds found') → FoundAlike found found'
  found_once faults request body body' kept kept' calls calls' found found' bodies kepts finds finds' =
      routes_once (like (gates_of window tables shown) (gates_of window' tables shown')) (callbacks (Rel word window shown)) (callbacks (Rel word' window' shown')) (table_of tables)
      (calls_once laws word word' (gates_of window tables shown) (gates_of window' tables shown') calm calm' (table_of tables)) found found' faults request body body' kept kept' calls calls' bodies kepts finds finds'

  -- what a request is once it has its method
  opened_as : (v : ℕ) (w : Option (ℕ × ℕ)) (s : Bool) → IsCalm (gates_of w tables s) → (request : Seen ℕ) (source : SourceInMemory) (bytes : List ℕ) (kept : Kept ℕ) (opened : RequestAt ℕ Body ℕ) → FromSource source bytes
      → Opens (Rel v w s) (record { request = request; body = body_from source; kept = kept }) opened → OpenedAs (gates_of w tables s) request bytes kept opened
  opened_as v w s quiet request source bytes kept opened from opens =
      let so = opened_so (gates_of w tables s) quiet source bytes opens.front opened.body from.all from.never_faults opens.peeks in
      record {
        content_type = opens.request.content_type;
        read = opens.request.read;
        request_is = opens.request.request ∙ ap (λ (front : List ℕ). overridden opens.request.content_type front request) so.front;
        all = so.all;
        uncut = so.uncut;
        kept_is = opens.kept;
      }

  -- where two requests have their methods
  lives_once : (calls calls' : List Call) (over over' : Over ℕ SourceInMemory) (first first' : RequestAt ℕ Body ℕ) (lives : Lives (Rel word window shown) tables first calls over)
      (lives' : Lives (Rel word' window' shown') tables first' calls' over') → lives'.opened.request ≡ lives.opened.request → Alike lives.opened.body lives'.opened.body → AddedAlike lives.opened.kept lives'.opened.kept
      → OneResponse over.response over'.response
  lives_once calls calls' over over' first first' lives lives' request bodies kepts =
      let finds' : Routes (callbacks (Rel word' window' shown')) (table_of tables) [] (record { request = lives.opened.request; body = lives'.opened.body; kept = lives'.opened.kept }) lives'.between (Finds lives'.found) =
      subst (λ (r : Seen ℕ). Routes (callbacks (Rel word' window' shown')) (table_of tables) [] (record { request = r; body = lives'.opened.body; kept = lives'.opened.kept }) lives'.between (Finds lives'.found)) request
      (routed_of table tables sample word' window' shown' first' calls' over' lives') in
      let same = found_once [] lives.opened.request lives.opened.body lives'.opened.body lives.opened.kept lives'.opened.kept lives.between lives'.between lives.found lives'.found bodies kepts
      (routed_of table tables sample word window shown first calls over lives) finds' in
      let ident : List ℕ = tables.config.ident in
      let head : Bool = is_head lives.opened.request.method in
      let head' : is_head lives'.opened.request.method ≡ head = ap (λ (r : Seen ℕ). is_head r.method) request in
      let cookies : pending_cookies lives'.found.kept over'.moment ≡ pending_cookies lives.found.kept over.moment = pending_alike lives.found.kept lives'.found.kept over.moment over'.moment same.kept in
      let one = finishes table tables sample word window shown first calls over lives in
      let other = finishes table tables sample word' window' shown' first' calls' over' lives' in (
        other ∙ ap (λ (h : Bool). finished ident h (pending_cookies lives'.found.kept over'.moment) lives'.found.response) head'
            ∙ ap (λ (cs : List Parts). finished ident head cs lives'.found.response) cookies ∙ ap (finished ident head (pending_cookies lives.found.kept over.moment)) same.response ∙ sym one,
        subst HasNoSource (sym one) (finished_at_hand ident head (pending_cookies lives.found.kept over.moment) lives.found.response same.good),
      )

  ends_once : (faults : List Bad) (request : Seen ℕ) (source source' : SourceInMemory) (bytes : List ℕ) (kept kept' : Kept ℕ) (calls calls' : List Call) (over over' : Over ℕ SourceInMemory) → FromSource source bytes
      → FromSource source' bytes → AddedAlike kept kept' → Ends (Rel word window shown) tables faults (record { request = request; body = body_from source; kept = kept }) calls over
      → Ends (Rel word' window' shown') tables faults (record { request = request; body = body_from source'; kept = kept' }) calls' over' → OneResponse over.response over'.response
  ends_once [] request source source' bytes kept kept' calls calls' over over' from from' kepts lives lives' =
      let one = opened_as word window shown calm request source bytes kept lives.opened from lives.opens in
      let other = opened_as word' window' shown' calm' request source' bytes kept' lives'.opened from' lives'.opens in
      let content_type : other.content_type ≡ one.content_type = content_type_once laws request other.content_type one.content_type other.read one.read in
      let same : lives'.opened.request ≡ lives.opened.request =
      other.request_is ∙ ap (λ (t : Option Media). overridden t (take 14 bytes) request) content_type ∙ sym one.request_is in
      lives_once calls calls' over over' _ _ lives lives' same
      (record { bytes = other.all ∙ sym one.all; uncut = one.uncut; uncut_too = other.uncut }) (rw (one.kept_is, other.kept_is) kepts)
  ends_once (fault ∷ faults) request source source' bytes kept kept' calls calls' over over' from from' kepts refuses refuses' =
      let bodies : Alike (body_from source) (body_from source') = record {
        bytes = from'.all ∙ sym from.all;
        uncut = uncut_from (gates_of window tables shown) source from.never_faults;
        uncut_too = uncut_from (gates_of window' tables shown') source' from'.never_faults;
      } in
      let same = found_once (fault ∷ faults) request (body_from source) (body_from source') kept kept' calls calls' refuses.found refuses'.found bodies kepts refuses.finds refuses'.finds in (
        refuses'.response ∙ same.response ∙ sym refuses.response,
        subst HasNoSource (sym refuses.response) same.good,
      )

  pub leads_once : (request : ScriptRequest) (run run' : RunOf ℕ) (response response' : Response) → LeadsTo word window tables shown (asked_for request) run response → LeadsTo word' window' tables shown' (asked_for request) run' response'
      → OneResponse response response'
  leads_once request run run' response response' life life' =
      let came = incomes_alike laws request.head tables.config tables.managed life.request life'.request life.jar life'.jar life.faults life'.faults life.incoming life'.incoming in
      let kept : Kept ℕ = record { jar = life.jar; cache = []; shutdown = life.before } in
      let kept' : Kept ℕ = record { jar = life'.jar; cache = []; shutdown = life'.before } in
      let kepts = begun_alike kept kept' came.log came.log' came.floor came.floor' in
      let leads' : Ends (Rel word' window' shown') tables life.faults (record { request = life.request; body = body_from life'.source; kept = kept' }) run'.calls (over_as run' response' life'.after) =
      subst (λ (r : Seen ℕ). Ends (Rel word' window' shown') tables life.faults (record { request = r; body = body_from life'.source; kept = kept' }) run'.calls (over_as run' response' life'.after)) came.request_is
      (subst (λ (fs : List Bad). Ends (Rel word' window' shown') tables fs (record { request = life'.request; body = body_from life'.source; kept = kept' }) run'.calls (over_as run' response' life'.after)) came.faults_are life'.leads) in
      ends_once life.faults life.request life.source life'.source request.body kept kept' run.calls run'.calls (over_as run response life.after) (over_as run' response' life'.after)
      (from_source life.source request life.untouched life.gives) (from_source life'.source request life'.untouched life'.gives) kepts life.leads leads'

-- so an exchange makes one response, whatever word `/stop` tells, under Gates by which nothing is cut off
pub made_once : (laws : Spelling) (table : Table) (word word' : ℕ) (window window' : Option (ℕ × ℕ)) (shown shown' : Bool) (request : ScriptRequest) (response response' : Response) (made : IsMade table word window shown request response)
    (made' : IsMade table word' window' shown' request response') → IsCalm (gates_of window made.tables shown) → IsCalm (gates_of window' made'.tables shown') → OneResponse response response'
made_once laws table word word' window window' shown shown' request response response' made made' calm calm' =
    let tables = tables_once table made.tables made'.tables made.sample made'.sample in
    leads_once laws word word' window window' table made.tables made.sample shown shown' calm (subst (λ (t : SampleTables). IsCalm (gates_of window' t shown')) tables calm') request made.run made'.run response response' made.lifecycle
    (subst (λ (t : SampleTables). LeadsTo word' window' t shown' (asked_for request) made'.run response') tables made'.lifecycle)
