-- How an exchange goes from one phase to the next.
use Rattle.std.specs.Prelude.{◌≡◌, ◌<◌, ◌≤◌, ◌++◌, ◌∷◌, ℕ, List, [], Bool, length}
use Rattle.std.proofs.Common.{arith, refl, subst, sym, ◌∙◌, ap}
use Rattle.rkt_router.specs.Callbacks.{RequestAt}
use Rattle.rkt_message.specs.Response.{ResponseOf}
use Rattle.rkt_request.specs.Lent.{Lent}
use Rattle.rkt_request.specs.Seen.{Seen}
use Rattle.rkt_request.specs.declared.bad.Bad.{Bad}
use Rattle.rkt_router.specs.Calls.{GateFits}
use Rattle.rkt_routing.specs.Beginning.{Beginning}
use Rattle.rkt_routing.specs.Backs.{Backs}
use Rattle.rkt_routing.specs.BetweenLaws.{backs_more}
use Rattle.rkt_turn.specs.HandsBackLaws.{hands_back_more}
use Rattle.rkt_routing.specs.Routed.{is_head}
use Rattle.rkt_routing.specs.Invariant.{Holding, InvariantAt, PolledGives as RoutingGives}
use Rattle.rkt_routing.specs.declared.progress.Progress.TheVariants as progress
use Rattle.rkt_routing.specs.declared.run.Call.{Call}
use Rattle.rkt_routing.specs.declared.stage.Live.{Live}
use Rattle.rkt_routing.specs.declared.stage.RoutedOf.TheVariants as routed
use Rattle.rkt_source.specs.declared.source.Gate.{Gate}
use Rattle.rkt_turn.specs.HandsBack.{HandsBack}
use Rattle.rkt_turn.specs.Shutdown.{Handle}
use Rattle.rkt_exchange.specs.Answers.{Answers, AnsweredGives, Outgoing, answered_at, InvariantFor as AnswersStandFor}
use Rattle.rkt_exchange.specs.Asks.{Asks, AskedGives, asked_at, InvariantFor as AsksStandFor}
use Rattle.rkt_dispatch.specs.Finalizing.{with_body_rule}
use Rattle.rkt_exchange.specs.Finalized.{finalized}
use Rattle.rkt_exchange.specs.Ended.{IfFinished, handle_of}
use Rattle.rkt_exchange.specs.Lifecycle.{Finalized, Ends, Routed}
use Rattle.rkt_dispatch.specs.Overridden.{Overridden}
use Rattle.rkt_exchange.specs.Relations.{Relations, callbacks}
use Rattle.rkt_exchange.specs.Invariant.{EndsSo, IsAnswering, IsAsking, IsBad, IsMoment, IsPeeking, IsRefusing, IsRouting, InvariantIn, WaitsIn, WasAsked, WasFound, WasOpened, WasRouted, found_of, opened_at}
use Rattle.rkt_exchange.specs.Tables.{SeenTables, table_of}
use Rattle.rkt_exchange.specs.declared.calls.FinalizedOf.TheVariants as answered
use Rattle.rkt_exchange.specs.declared.calls.Arrival.{Arrival}
use Rattle.rkt_exchange.specs.declared.calls.PreprocessedOf.TheVariants as asked
use Rattle.rkt_exchange.specs.declared.calls.Departure.{Departure}
use Rattle.rkt_exchange.specs.declared.ended.EndedOf.{EndedOf}
use Rattle.rkt_exchange.specs.declared.ended.EndedOf.TheVariants as ended
use Rattle.rkt_exchange.specs.declared.peeking.PeekingOf.{PeekingOf}
use Rattle.rkt_exchange.specs.declared.phase.Phase.TheVariants as phase

-- a list of no faults, and one of some
pub no_faults : (faults : List Bad) → length faults < 1 → faults ≡ []
no_faults [] few = refl
no_faults (fault ∷ faults) few = absurd (omega (arith, few))

pub some_faults : (faults : List Bad) → 1 ≤ length faults → IsBad faults
some_faults [] some = absurd (omega (arith, some))
some_faults (fault ∷ faults) some = (fault, faults, refl)

module _ {V B C S F FTask GTask H HTask K KTask N : Type 0} (rel : Relations V B C S F FTask GTask H HTask K KTask) (first : Beginning V B C) (tables : SeenTables F H K N V) where
  -- the body is peeked at
  pub peeking_begins : (peeking : PeekingOf (Seen V) B (Lent C)) → first.faults ≡ [] → peeking.request ≡ first.at.request → peeking.body ≡ first.at.body → peeking.ctx.kept ≡ first.at.kept
      → IsPeeking rel first tables peeking
  peeking_begins peeking good request body kept =
      record { good = good; request = request; kept = kept; leads = λ shown after peeks. subst (λ b. rel.peeks b shown after) body peeks }

  pub peeking_on : (waits : Gate → B → B → Type 0) (peeking next : PeekingOf (Seen V) B (Lent C)) (gate : Gate) → IsPeeking rel first tables peeking → next ≡ record peeking { body = next.body }
      → waits gate peeking.body next.body → ((shown : List ℕ) (after : B) → rel.peeks next.body shown after → rel.peeks peeking.body shown after)
      → InvariantIn rel first tables (phase.Peeking next) × WaitsIn rel first tables waits gate (phase.Peeking next)
  peeking_on waits peeking next gate is same wait on =
      let request : next.request ≡ first.at.request = ap (λ p. p.request) same ∙ is.request in
      let kept : next.ctx.kept ≡ first.at.kept = ap (λ p. p.ctx.kept) same ∙ is.kept in (
        record { good = is.good; request = request; kept = kept; leads = λ shown after peeks. is.leads shown after (on shown after peeks) },
        (peeking.body, record { good = is.good; request = request; kept = kept; leads = is.leads }, wait),
      )

  pub peeking_done : (peeking opened : PeekingOf (Seen V) B (Lent C)) (shown : List ℕ) → IsPeeking rel first tables peeking → opened.ctx ≡ peeking.ctx → rel.peeks peeking.body shown opened.body
      → Overridden peeking.request shown opened.request → WasOpened rel first tables (opened_at opened)
  peeking_done peeking opened shown is ctx peeks over = record {
    good = is.good;
    opens = record {
      front = shown;
      peeks = is.leads shown opened.body peeks;
      request = subst (λ r. Overridden r shown opened.request) is.request over;
      kept = ap (λ c. c.kept) ctx ∙ is.kept;
    };
  }

  -- fairings are called for a request
  pub asking_begins : (asks : Asks V B C F FTask) (opened : RequestAt V B C) → WasOpened rel first tables opened → asks.fairings ≡ tables.fairings → asks.turns ≡ tables.config.turns
      → AsksStandFor rel.requests rel.gates opened asks → IsAsking rel first tables asks
  unfolding AsksStandFor
  asking_begins asks opened was fairings turns stands = record { opened = opened; opens = was; fairings = fairings; turns = turns; stands = rw (fairings, turns) at stands }

  pub asking_stands : (asks : Asks V B C F FTask) (is : IsAsking rel first tables asks) → AsksStandFor rel.requests rel.gates is.opened asks
  unfolding AsksStandFor
  asking_stands asks is = rw (is.fairings, is.turns) is.stands

  pub asking_on : (waits : Gate → B → B → Type 0) (asks next : Asks V B C F FTask) (gate : Gate) (is : IsAsking rel first tables asks)
      → AskedGives rel.requests rel.gates is.opened asks.fairings asks.turns gate (progress.Pending next)
      → InvariantIn rel first tables (phase.Preprocessing next) × WaitsIn rel first tables waits gate (phase.Preprocessing next)
  unfolding AskedGives
  asking_on waits asks next gate is gives =
      let at = rw (is.fairings, is.turns) at gives in (record { opened = is.opened; opens = is.opens; fairings = at.0; turns = at.1; stands = at.2 }, (is.opened, at.3))

  pub asking_done : (asks : Asks V B C F FTask) (arrival : Arrival (Seen V) B (Lent C)) (gate : Gate) (is : IsAsking rel first tables asks)
      → AskedGives rel.requests rel.gates is.opened asks.fairings asks.turns gate (progress.Ready (asked.Done arrival)) → WasAsked rel first tables arrival.live.calls (asked_at arrival)
  unfolding AskedGives
  asking_done asks arrival gate is gives =
      let at = rw (is.fairings, is.turns) at gives in
      record { opened = is.opened; opens = is.opens; asks = at.0; backs = subst (λ k. Backs k.shutdown arrival.live.ctx.kept.shutdown arrival.live.calls) is.opens.opens.kept at.1 }

  pub asking_starved : (asks : Asks V B C F FTask) (shutdown : Handle) (gate : Gate) (is : IsAsking rel first tables asks)
      → AskedGives rel.requests rel.gates is.opened asks.fairings asks.turns gate (progress.Ready (asked.Starved shutdown)) → HandsBack first.at.kept.shutdown shutdown
  unfolding AskedGives
  asking_starved asks shutdown gate is gives =
      subst (λ k. HandsBack k.shutdown shutdown) is.opens.opens.kept gives

  -- it is routed
  pub routing_begins : (routing : Holding V B C H HTask K KTask N) (calls : List Call) (head : Bool) (asked : RequestAt V B C) → WasAsked rel first tables calls asked → head ≡ is_head asked.request.method
      → routing.table ≡ table_of tables → InvariantAt (callbacks rel) (record { at = asked; faults = [] }) routing.table routing.live routing.stage → IsRouting rel first tables routing calls head
  routing_begins routing calls head asked asks head_is table stands = record { asked = asked; asks = asks; head_is = head_is; table = table; stands = rw table at stands }

  pub routing_stands : (routing : Holding V B C H HTask K KTask N) (calls : List Call) (head : Bool) (is : IsRouting rel first tables routing calls head)
      → InvariantAt (callbacks rel) (record { at = is.asked; faults = [] }) routing.table routing.live routing.stage
  routing_stands routing calls head is = rw is.table is.stands

  pub routing_on : (waits : Gate → B → B → Type 0) (routing next : Holding V B C H HTask K KTask N) (calls : List Call) (head : Bool) (gate : Gate) (is : IsRouting rel first tables routing calls head)
      → RoutingGives (callbacks rel) (record { at = is.asked; faults = [] }) routing.table gate (progress.Pending next)
      → InvariantIn rel first tables (phase.Routing next calls head) × WaitsIn rel first tables waits gate (phase.Routing next calls head)
  routing_on waits routing next calls head gate is gives =
      let at = rw is.table at gives in (record { asked = is.asked; asks = is.asks; head_is = is.head_is; table = at.0; stands = at.2 }, (at.1, is.asked, at.3))

  pub routing_found : (routing : Holding V B C H HTask K KTask N) (calls : List Call) (head : Bool) (gate : Gate) (live : Live (Seen V) (Lent C)) (response : ResponseOf S)
      (is : IsRouting rel first tables routing calls head)
      → RoutingGives (callbacks rel) (record { at = is.asked; faults = [] }) routing.table gate (progress.Ready (routed.Found live response)) → WasFound rel first tables calls head live response
  routing_found routing calls head gate live response is gives =
      let at = rw is.table at gives in record { asked = is.asked; asks = is.asks; head_is = is.head_is; finds = at.0; backs = at.1 }

  pub routing_starved : (routing : Holding V B C H HTask K KTask N) (calls : List Call) (head : Bool) (gate : Gate) (shutdown : Handle) (is : IsRouting rel first tables routing calls head)
      → RoutingGives (callbacks rel) (record { at = is.asked; faults = [] }) routing.table gate (progress.Ready (routed.Starved shutdown)) → HandsBack first.at.kept.shutdown shutdown
  routing_starved routing calls head gate shutdown is gives = hands_back_more first.at.kept.shutdown is.asked.kept.shutdown shutdown is.asks.backs.hands_back gives

  -- its response is finalized
  pub found_back : (calls : List Call) (head : Bool) (live : Live (Seen V) (Lent C)) (response : ResponseOf S) → WasFound rel first tables calls head live response
      → HandsBack first.at.kept.shutdown live.ctx.kept.shutdown
  found_back calls head live response was = hands_back_more first.at.kept.shutdown was.asked.kept.shutdown live.ctx.kept.shutdown was.asks.backs.hands_back was.backs.hands_back

  pub found_routed : (calls all : List Call) (head : Bool) (moment : ℕ) (live : Live (Seen V) (Lent C)) (response : ResponseOf S) (out : Outgoing V C S) → all ≡ calls ++ live.calls → IsMoment rel.gates moment
      → out ≡ finalized tables.config.ident moment (found_of live response) → WasFound rel first tables calls head live response → WasRouted rel first tables all head moment out
  found_routed calls all head moment live response out are moment_is out_is was = record {
    asked = was.asked;
    found = found_of live response;
    before = calls;
    between = live.calls;
    calls_are = are;
    asks = was.asks;
    finds = was.finds;
    head_is = was.head_is;
    moment_is = moment_is;
    out_is = out_is;
    backs = rw (are, out_is) (backs_more first.at.kept.shutdown was.asked.kept.shutdown live.ctx.kept.shutdown calls live.calls was.asks.backs was.backs);
  }

  pub answering_begins : (answers : Answers V C S F GTask) (calls : List Call) (head : Bool) (moment : ℕ) (out : Outgoing V C S) → WasRouted rel first tables calls head moment out
      → answers.fairings ≡ tables.fairings → answers.turns ≡ tables.config.turns → AnswersStandFor rel.responses rel.gates out answers → IsAnswering rel first tables answers calls head moment
  unfolding AnswersStandFor
  answering_begins answers calls head moment out was fairings turns stands = record { out = out; routed = was; fairings = fairings; turns = turns; stands = rw (fairings, turns) at stands }

  -- fairings are called for a response
  pub answering_stands : (answers : Answers V C S F GTask) (calls : List Call) (head : Bool) (moment : ℕ) (is : IsAnswering rel first tables answers calls head moment)
      → AnswersStandFor rel.responses rel.gates is.out answers
  unfolding AnswersStandFor
  answering_stands answers calls head moment is = rw (is.fairings, is.turns) is.stands

  pub answering_on : (waits : Gate → B → B → Type 0) (answers next : Answers V C S F GTask) (calls : List Call) (head : Bool) (moment : ℕ) (gate : Gate) (is : IsAnswering rel first tables answers calls head moment)
      → AnsweredGives rel.responses rel.gates is.out answers.fairings answers.turns gate (progress.Pending next)
      → InvariantIn rel first tables (phase.Finalizing next calls head moment) × WaitsIn rel first tables waits gate (phase.Finalizing next calls head moment)
  unfolding AnsweredGives
  answering_on waits answers next calls head moment gate is gives =
      let at = rw (is.fairings, is.turns) at gives in (record { out = is.out; routed = is.routed; fairings = at.0; turns = at.1; stands = at.2 }, (is.out, at.3))

  pub answering_starved : (answers : Answers V C S F GTask) (calls : List Call) (head : Bool) (moment : ℕ) (gate : Gate) (shutdown : Handle) (is : IsAnswering rel first tables answers calls head moment)
      → AnsweredGives rel.responses rel.gates is.out answers.fairings answers.turns gate (progress.Ready (answered.Starved shutdown)) → HandsBack first.at.kept.shutdown shutdown
  unfolding AnsweredGives
  answering_starved answers calls head moment gate shutdown is gives = hands_back_more first.at.kept.shutdown is.out.at.kept.shutdown shutdown is.routed.backs.hands_back gives

  -- and the exchange ends
  pub answered_ends : (answers : Answers V C S F GTask) (departure : Departure (Seen V) (Lent C) S) (calls : List Call) (head : Bool) (moment : ℕ) (gate : Gate) (over : EndedOf C S Handle)
      (is : IsAnswering rel first tables answers calls head moment)
      → AnsweredGives rel.responses rel.gates is.out answers.fairings answers.turns gate (progress.Ready (answered.Done departure))
      → IfFinished over (λ run response. run.calls ≡ calls ++ departure.live.calls) → IfFinished over (λ run response. run.jar ≡ departure.live.ctx.kept.jar)
      → IfFinished over (λ run response. run.cache ≡ departure.live.ctx.kept.cache) → IfFinished over (λ run response. run.moment ≡ moment)
      → IfFinished over (λ run response. response ≡ with_body_rule head departure.response) → handle_of over ≡ departure.live.ctx.kept.shutdown → EndsSo rel first tables over
  unfolding AnsweredGives
  answered_ends answers departure calls head moment gate (ended.Finished run response shutdown) is gives calls_are jar cache moment_is response_is handle =
      let at = rw (is.fairings, is.turns) at gives in
      let was = is.routed in
      let kept_is : record { jar = run.jar; cache = run.cache; shutdown = shutdown } ≡ departure.live.ctx.kept = rw (jar, cache, handle) refl in
      record {
        lifecycle = subst (λ fs. Ends rel tables fs first.at run.calls (record { kept = record { jar = run.jar; cache = run.cache; shutdown = shutdown }; moment = run.moment; response = response })) (sym was.asks.opens.good) (record {
          opened = was.asks.opened;
          asked = was.asked;
          found = was.found;
          left = answered_at departure;
          before = was.before;
          between = was.between;
          behind = departure.live.calls;
          calls_are = calls_are ∙ ap (λ cs. cs ++ departure.live.calls) was.calls_are;
          opens = was.asks.opens.opens;
          asks = was.asks.asks;
          finds = was.finds;
          answers = subst (λ out. Finalized rel tables out departure.live.calls (answered_at departure)) (was.out_is ∙ ap (λ m. finalized tables.config.ident m was.found) (sym moment_is)) at.1;
          kept = kept_is;
          response = response_is ∙ ap (λ h. with_body_rule h departure.response) was.head_is;
        });
        moment = rw moment_is was.moment_is;
        backs = rw (calls_are, handle) (backs_more first.at.kept.shutdown is.out.at.kept.shutdown departure.live.ctx.kept.shutdown calls departure.live.calls was.backs at.2);
      }
  answered_ends answers departure calls head moment gate (ended.Starved shutdown) is gives calls_are jar cache moment_is response_is handle =
      let at = rw (is.fairings, is.turns) at gives in
      rw handle (hands_back_more first.at.kept.shutdown is.out.at.kept.shutdown departure.live.ctx.kept.shutdown is.routed.backs.hands_back at.2.hands_back)

  -- a bad request is answered
  pub refusing_begins : (routing : Holding V B C H HTask K KTask N) → IsBad first.faults → routing.table ≡ table_of tables → InvariantAt (callbacks rel) first routing.table routing.live routing.stage
      → IsRefusing rel first tables routing
  refusing_begins routing bad table stands = record { bad = bad; table = table; stands = rw table at stands }

  pub refusing_stands : (routing : Holding V B C H HTask K KTask N) → IsRefusing rel first tables routing → InvariantAt (callbacks rel) first routing.table routing.live routing.stage
  refusing_stands routing is = rw is.table is.stands

  pub refusing_on : (waits : Gate → B → B → Type 0) (routing next : Holding V B C H HTask K KTask N) (gate : Gate) → IsRefusing rel first tables routing → RoutingGives (callbacks rel) first routing.table gate (progress.Pending next)
      → InvariantIn rel first tables (phase.Refusing next) × WaitsIn rel first tables waits gate (phase.Refusing next)
  refusing_on waits routing next gate is gives = let at = rw is.table at gives in (record { bad = is.bad; table = at.0; stands = at.2 }, (at.1, at.3))

  pub refused_ends : (routing : Holding V B C H HTask K KTask N) (gate : Gate) (live : Live (Seen V) (Lent C)) (response : ResponseOf S) → GateFits rel.gates gate → IsRefusing rel first tables routing
      → RoutingGives (callbacks rel) first routing.table gate (progress.Ready (routed.Found live response))
      → EndsSo rel first tables (ended.Finished (record { calls = live.calls; jar = live.ctx.kept.jar; cache = live.ctx.kept.cache; moment = gate.moment }) response live.ctx.kept.shutdown)
  refused_ends routing gate live response fits is gives =
      let at = rw is.table at gives in
      record {
        lifecycle = subst (λ fs. Ends rel tables fs first.at live.calls (record { kept = live.ctx.kept; moment = gate.moment; response = response })) (sym is.bad.2) (record {
          found = found_of live response;
          finds = subst (λ fs. Routed rel tables fs first.at live.calls (found_of live response)) is.bad.2 at.0;
          kept = refl;
          response = refl;
        });
        moment = (gate, fits, refl);
        backs = at.1;
      }
