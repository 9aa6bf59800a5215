-- What a value that answers leaves.
use Rattle.std.proofs.Common.{◌≡◌, ◌+◌, ◌++◌, ◌∷◌, [], ℕ, List, Option, Some, None, Result, Ok, Err, ⊎_elim, ap, arith, length, length-append, refl, subst, sym, ◌∙◌}
use Rattle.std.specs.Prelude.{⊤}
use Rattle.std.specs.Result.{IfOk, OnErr, result_map_both}
use Rattle.rkt_base.specs.declared.want.Want.{Want}
use Rattle.rkt_base.specs.declared.want.Want.TheVariants as want
use Rattle.rkt_http.specs.declared.outcome.Outcome.{Outcome}
use Rattle.rkt_http.specs.declared.outcome.Outcome.TheVariants.{Error}
use Rattle.rkt_http.specs.declared.status.Status.{Status}
use Rattle.rkt_message.specs.Response.{ResponseOf}
use Rattle.rkt_request.specs.Lent.{Grows, Kept, Lent, MayGrow}
use Rattle.rkt_request.specs.Guarding.{Guarded, Guarding}
use Rattle.rkt_request.specs.LentLaws.{grows_again, grows_same, may_grow_again}
use Rattle.rkt_request.specs.Seen.{Seen}
use Rattle.rkt_response.specs.Responder.{Answer, IfAnswered, IfStarved}
use Rattle.rkt_answers.specs.AnswersData.{IsAnsweredAs, IsUnderWay, most_pendings, taking}
use Rattle.rkt_answers.specs.declared.answers_data.Taking.{Taking}
use Rattle.rkt_answers.specs.Replies.{MadeBy}
use Rattle.rkt_answers.specs.Answers.{RepliesAs, Responds, answer_step, answering, attempting, catching, in_one, lent_under}
use Rattle.rkt_router.specs.Callbacks.{Handed, Refused, Reply}
use Rattle.rkt_router.specs.Calling.{AnswersPoll}
use Rattle.rkt_router.specs.Steps.{StepsTo}
use Rattle.rkt_router.specs.declared.step.Step.{Step}
use Rattle.rkt_router.specs.declared.step.Step.TheVariants.{Done, Fault, Pending, Starved}
use Rattle.rkt_source.specs.declared.source.Gate.{Gate}

-- what has grown since a call began grows on
pub grown_on : {C : Type 0} (before : Kept C) (was now : Lent C) → Grows before was.kept → MayGrow was now → Grows before now.kept
grown_on before was now grown more = ⊎_elim
    (λ (same : now ≡ was). subst (λ (lent : Lent _). Grows before lent.kept) (sym same) grown)
    (λ (on : Grows was.kept now.kept × (now.gate ≡ was.gate)). grows_again before was.kept now.kept grown on.0)
    more

pub gate_kept : {C : Type 0} (was now : Lent C) → MayGrow was now → now.gate ≡ was.gate
gate_kept was now more = ⊎_elim (λ (same : now ≡ was). ap (λ (lent : Lent _). lent.gate) same) (λ (on : Grows was.kept now.kept × (now.gate ≡ was.gate)). on.1) more

-- what is lent, by what may be changed and the Gate
lent_so : {C : Type 0} (lent : Lent C) (gate : Gate) (kept : Kept C) → lent.gate ≡ gate → lent.kept ≡ kept → lent ≡ lent_under gate kept
lent_so lent gate kept same_gate same_kept = ap (λ (g : Gate). lent_under g lent.kept) same_gate ∙ ap (λ (k : Kept _). lent_under gate k) same_kept

-- a call that was made of what is lent was made of what stood before it, under the Gate that was shown
pub made_under : {C : Type 0} (Made : Lent C → Lent C → Type 0) (before : Kept C) (was now : Lent C) → was.kept ≡ before → MayGrow was now → Made was now
    → Made (lent_under was.gate before) (lent_under was.gate now.kept)
made_under Made before was now same more made =
    subst (λ (from : Lent _). Made from (lent_under was.gate now.kept)) (lent_so was was.gate before refl same)
    (subst (λ (left : Lent _). Made was left) (lent_so now was.gate now.kept (gate_kept was now more) refl) made)

-- the one poll of a call that is done at its first
module _ {Self H C A T : Type 0} (Holds : Self → H → T → Type 0) (may : Self → H → Lent C → A → Lent C → Type 0) (callback : Self) (handed : H) (before : Kept C) (gates : List Gate) (n : ℕ)
    (old : Option T) (was now : Lent C) (begun : (in_one Holds may).begun callback handed old before was.kept gates n) where
  pub done_in_one : (held : T) (answer : A) → old ≡ Some held → MayGrow was now → may callback handed was answer now → (in_one Holds may).may callback handed before (gates ++ was.gate ∷ []) answer now.kept
  done_in_one held answer is more made =
      let fresh : Holds callback handed held × (was.kept ≡ before) × (gates ≡ []) = rw is at begun.0 in (
        was.gate,
        ap (λ (shown : List Gate). shown ++ was.gate ∷ []) fresh.2,
        made_under (λ from left. may callback handed from answer left) before was now fresh.1 more made,
        grown_on before was now begun.1 more,
      )

  -- or it found no memory
  pub starved_in_one : (new : Option T) → new ≡ None → MayGrow was now → (in_one Holds may).begun callback handed new before now.kept (gates ++ was.gate ∷ []) n
  starved_in_one new is more = rw is (tt, grown_on before was now begun.1 more, begun.2)

-- what such a call holds of what it was handed
pub held_in_one : {Self H C A T : Type 0} (Holds : Self → H → T → Type 0) (may : Self → H → Lent C → A → Lent C → Type 0) (callback : Self) (handed : H) (before now : Kept C) (gates : List Gate) (n : ℕ)
    (old : Option T) (held : T) → (in_one Holds may).begun callback handed old before now gates n → old ≡ Some held → Holds callback handed held
held_in_one Holds may callback handed before now gates n old held begun is =
    let fresh : Holds callback handed held × (now ≡ before) × (gates ≡ []) = rw is at begun.0 in fresh.0

-- a poll of a handler that answers with a value
module _ {Self V B C R X : Type 0} (Made : Self → Seen V → Lent C → X → Lent C → Type 0) (May : X → Seen V → Lent C → Answer R → Lent C → Type 0) (handler : Self) (handed : Handed V B)
    (before : Kept C) (gates : List Gate) (n : ℕ) (old new : Option (Unit {0})) (was between now : Lent C) where
  pub answer_done : (value : X) (reply : Reply R B) → (answering Made May).begun handler handed old before was.kept gates n → old ≡ Some tt → Made handler handed.request was value between → MayGrow was between
      → MadeBy (λ answer. May value handed.request between answer now) reply → MayGrow between now → (answering Made May).may handler handed before (gates ++ was.gate ∷ []) reply now.kept
  answer_done value reply begun is made first may second =
      done_in_one (λ handler handed held. ⊤) (λ handler handed before reply after. MadeBy (λ answer. Responds (Made handler handed.request) (λ value. May value handed.request) before answer after) reply)
      handler handed before gates n old was now begun tt reply is (may_grow_again was between now first second)
      (may.0, record { value = value; between = between; made = made; may = may.1 }, may.2)

  pub answer_starved : (answering Made May).begun handler handed old before was.kept gates n → new ≡ None → MayGrow was now → (answering Made May).begun handler handed new before now.kept (gates ++ was.gate ∷ []) n
  answer_starved begun none more =
      starved_in_one (λ handler handed held. ⊤)
      (λ handler handed before (reply : Reply R B) after. MadeBy (λ answer. Responds (Made handler handed.request) (λ value. May value handed.request) before answer after) reply)
      handler handed before gates n old was now begun new none more

-- a poll of a catcher, by the step of a responder's answer
module _ {Self V C R X : Type 0} (Made : Self → Refused V → Lent C → X → Lent C → Type 0) (May : X → Seen V → Lent C → Answer R → Lent C → Type 0) (catcher : Self) (refused : Refused V)
    (before : Kept C) (gates : List Gate) (n : ℕ) (old new : Option Status) (was between now : Lent C) where
  catch_done : (held : Status) (value : X) (answer : Answer R) → (catching Made May).begun catcher refused old before was.kept gates n → old ≡ Some held → Made catcher refused was value between → MayGrow was between
      → May value refused.request between answer now → MayGrow between now → (catching Made May).may catcher refused before (gates ++ was.gate ∷ []) answer now.kept
  catch_done held value answer begun is made first may second =
      done_in_one (λ catcher refused status. status ≡ refused.status) (λ catcher refused before answer after. Responds (Made catcher refused) (λ value. May value refused.request) before answer after)
      catcher refused before gates n old was now begun held answer is (may_grow_again was between now first second) (record { value = value; between = between; made = made; may = may })

  pub catch_starved : (catching Made May).begun catcher refused old before was.kept gates n → new ≡ None → MayGrow was now → (catching Made May).begun catcher refused new before now.kept (gates ++ was.gate ∷ []) n
  catch_starved begun none more =
      starved_in_one (λ catcher refused status. status ≡ refused.status) (λ catcher refused before answer after. Responds (Made catcher refused) (λ value. May value refused.request) before answer after)
      catcher refused before gates n old was now begun new none more

  -- the status that its task held
  pub catch_held : (held : Status) → (catching Made May).begun catcher refused old before was.kept gates n → old ≡ Some held → held ≡ refused.status
  catch_held held begun is =
      held_in_one (λ catcher refused status. status ≡ refused.status) (λ catcher refused before answer after. Responds (Made catcher refused) (λ value. May value refused.request) before answer after)
      catcher refused before was.kept gates n old held begun is

  pub catch_polled : (held : Status) (value : X) (result : Result (ResponseOf R) (Want Status)) → (catching Made May).begun catcher refused old before was.kept gates n → old ≡ Some held → new ≡ None
      → Made catcher refused was value between → MayGrow was between → IfAnswered result (λ answer. May value refused.request between answer now) → MayGrow between now
      → AnswersPoll (catching Made May) catcher refused before (gates ++ was.gate ∷ []) n (answer_step result) new now.kept
  catch_polled held value (Ok response) begun is none made first may second = catch_done held value (Ok response) begun is made first may second
  catch_polled held value (Err (want.Refused status)) begun is none made first may second = catch_done held value (Err status) begun is made first may second
  catch_polled held value (Err want.NoMemory) begun is none made first may second = catch_starved begun none (may_grow_again was between now first second)

-- a poll of a handler that answers with an outcome, by the step of that
module _ {Self V B C R X : Type 0} (Made : Self → Seen V → Lent C → Outcome X Status Status → Lent C → Type 0) (May : X → Seen V → Lent C → Answer R → Lent C → Type 0) (handler : Self) (handed : Handed V B)
    (before : Kept C) (gates : List Gate) (n : ℕ) (old new : Option B) (was between now : Lent C) where
  pub attempt_starved : (attempting Made May).begun handler handed old before was.kept gates n → new ≡ None → MayGrow was now → (attempting Made May).begun handler handed new before now.kept (gates ++ was.gate ∷ []) n
  attempt_starved begun none more =
      starved_in_one (λ handler handed body. body ≡ handed.body) (λ handler handed before reply after. Responds (Made handler handed.request) (RepliesAs (λ value. May value handed.request) handed.body) before reply after)
      handler handed before gates n old was now begun new none more

  pub attempt_polled : (body : B) (outcome : Outcome X Status Status) (step : Step (Reply R B)) → (attempting Made May).begun handler handed old before was.kept gates n → old ≡ Some body → new ≡ None
      → Made handler handed.request was outcome between → MayGrow was between
      → StepsTo step (λ reply. RepliesAs (λ value. May value handed.request) body outcome between reply now) ⊤ → MayGrow between now
      → AnswersPoll (attempting Made May) handler handed before (gates ++ was.gate ∷ []) n step new now.kept
  attempt_polled body outcome (Done reply) begun is none made first steps second =
      let same : body ≡ handed.body = held_in_one (λ handler handed body. body ≡ handed.body)
      (λ handler handed before reply after. Responds (Made handler handed.request) (RepliesAs (λ value. May value handed.request) handed.body) before reply after)
      handler handed before was.kept gates n old body begun is in
      let replies = subst (λ (b : B). RepliesAs (λ value. May value handed.request) b outcome between reply now) same steps in
      done_in_one (λ handler handed body. body ≡ handed.body) (λ handler handed before reply after. Responds (Made handler handed.request) (RepliesAs (λ value. May value handed.request) handed.body) before reply after)
      handler handed before gates n old was now begun body reply is (may_grow_again was between now first second) (record { value = outcome; between = between; made = made; may = replies })
  attempt_polled body outcome Starved begun is none made first steps second = attempt_starved begun none (may_grow_again was between now first second)
  attempt_polled body outcome Pending begun is none made first steps second = absurd steps
  attempt_polled body outcome Fault begun is none made first steps second = absurd steps

-- a reading that is under way
pub reading_begun : {V B G E T C : Type 0} (D : Guarding V B G E T) (handed : Handed V B) (before now : Kept C) (gates : List Gate) (n left : ℕ) (task : Option T) (reading : T)
    → IsUnderWay D handed task left before now gates n → task ≡ Some reading → D.begun handed.request handed.body gates n reading × (now ≡ before) × (n + left ≡ most_pendings)
    × (n ≡ length gates)
reading_begun D handed before now gates n left task reading begun is = rw is at begun

-- a poll of a handler that reads the body
module _ {Self V B G E T C R X : Type 0} (D : Guarding V B G E T) (Made : Self → Seen V → G → Lent C → X → Lent C → Type 0) (May : X → Seen V → Lent C → Answer R → Lent C → Type 0) (handler : Self)
    (handed : Handed V B) (before : Kept C) (gates : List Gate) (n : ℕ) (old new : Taking T) (was now : Lent C) (reading : T) where
  underway : (taking D Made May).begun handler handed old before was.kept gates n → old.reading ≡ Some reading → D.begun handed.request handed.body gates n reading × (was.kept ≡ before) × (n + old.left ≡ most_pendings)
      × (n ≡ length gates)
  underway begun is = rw is at begun

  -- once its guard has answered, by the step of that answer
  pub data_polled : (outcome : Guarded B G E) (step : Step (Reply R B)) → (taking D Made May).begun handler handed old before was.kept gates n → old.reading ≡ Some reading → new.reading ≡ None
      → D.may handed.request handed.body (gates ++ was.gate ∷ []) outcome
      → StepsTo step (λ reply. IsAnsweredAs (Made handler handed.request) (λ value. May value handed.request) was outcome reply now) ⊤ → MayGrow was now
      → AnswersPoll (taking D Made May) handler handed before (gates ++ was.gate ∷ []) n step new now.kept
  data_polled outcome (Done reply) begun is over may steps more =
      let same : was.kept ≡ before = (underway begun is).1 in
      record {
        outcome = outcome;
        read = may;
        earlier = gates;
        last = was.gate;
        polls = refl;
        answered = made_under (λ from left. IsAnsweredAs (Made handler handed.request) (λ value. May value handed.request) from outcome reply left) before was now same more steps;
        grows = grown_on before was now (grows_same before was.kept same) more;
      }
  data_polled outcome Starved begun is over may steps more =
      let was_underway = underway begun is in
      rw over (grown_on before was now (grows_same before was.kept was_underway.1) more, omega (arith, was_underway.3, length-append gates (was.gate ∷ [])))
  data_polled outcome Pending begun is over may steps more = absurd steps
  data_polled outcome Fault begun is over may steps more = absurd steps

answered_so : {R : Type 0} (May : Answer R → Type 0) (answer : Result (ResponseOf R) (Want Status)) (given : Answer R) → answer ≡ result_map_both (λ response. response) want.Refused given
    → IfAnswered answer May → May given
answered_so May answer (Ok response) is may = rw is at may
answered_so May answer (Err status) is may = rw is at may

-- a reply that is made of what a responder answered, and none where it starved
pub made_of : {R B X : Type 0} (May : Answer R → Type 0) (answer : Result (ResponseOf R) (Want Status)) (result : Result (Reply R B) X) → IfAnswered answer May
    → IfOk result (MadeBy (λ given. answer ≡ result_map_both (λ response. response) want.Refused given)) → IfOk result (MadeBy May)
made_of May answer (Ok reply) may made = (made.0, answered_so May answer made.0 made.1 may, made.2)
made_of May answer (Err e) may made = tt

pub starved_of : {R X E : Type 0} (Starves : Type 0) (answer : Result (ResponseOf R) (Want Status)) (result : Result X E) → IfStarved answer Starves → OnErr result (answer ≡ Err want.NoMemory)
    → OnErr result Starves
starved_of Starves answer (Ok reply) starves is = tt
starved_of Starves answer (Err e) starves is = rw is at starves

-- the reply to a refusal
pub refused_reply : {R B : Type 0} (answer : Result (ResponseOf R) (Want Status)) (status : Status) → answer ≡ Err (want.Refused status)
    → MadeBy {R = R} {B = B} (λ given. answer ≡ result_map_both (λ response. response) want.Refused given) (Error status)
refused_reply answer status is = (Err status, is, refl)
