-- Calls of fairings, one after the other.
use Rattle.std.specs.Prelude.{◌≡◌, ◌++◌, ◌+◌, ◌<◌, ◌≤◌, ℕ, List, [], ◌∷◌, Option, Some, None, length, option_and_then, slice_get}
use Rattle.std.proofs.Common.{arith, refl, sym, ap, subst}
use Rattle.std.proofs.lemmas.List.{append-nil}
use Rattle.std.proofs.lemmas.Option.{slice_get_within}
use Rattle.rkt_fairing.specs.Fairings.{SeenFairings, fairing_at}
use Rattle.rkt_fairing.specs.Places.{places_of}
use Rattle.rkt_fairing.specs.declared.callback.Callback.{Callback}
use Rattle.rkt_fairing.specs.declared.slot.Slot.{Slot}
use Rattle.rkt_router.specs.Calling.{Polls, Starts}
use Rattle.rkt_router.specs.CallLaws.{making_begins}
use Rattle.rkt_router.specs.Calls.{GateFits, Made, Making, OnceOver, PolledAs}
use Rattle.rkt_router.specs.declared.step.Step.TheVariants as step
use Rattle.rkt_router.specs.declared.turn.Final.{Final}
use Rattle.rkt_router.specs.declared.turn.Final.TheVariants as final
use Rattle.rkt_router.specs.declared.turn.Polled.{Polled}
use Rattle.rkt_router.specs.declared.turn.Polled.TheVariants as turn
use Rattle.rkt_routing.specs.Backs.{Backs}
use Rattle.rkt_routing.specs.BetweenLaws.{between_call, between_on}
use Rattle.rkt_routing.specs.MakingLaws.{pends}
use Rattle.rkt_routing.specs.Recorded.{recorded}
use Rattle.rkt_routing.specs.declared.run.Call.{Call}
use Rattle.rkt_source.specs.declared.source.Gate.{Gate}
use Rattle.rkt_turn.specs.HandsBack.{HandsBack}
use Rattle.rkt_turn.specs.HandsBackLaws.{hands_back_more}
use Rattle.rkt_turn.specs.Shutdown.{Handle}
use Rattle.rkt_exchange.specs.Chain.{Begins, Called, CallStands, to_call, CallTurned, CallsFrom, CallsNow, Chain, Chained, Ends, FairingCall}
use Rattle.rkt_exchange.specs.Recorded.{fairing_answer}
use Rattle.rkt_exchange.specs.declared.calls.FairingTask.{FairingTask}

-- the fairing at a place is one
pub same_fairing : {F : Type 0} {one other : Slot F} {found : Option (Slot F)} → Some one ≡ found → found ≡ Some other → one ≡ other
same_fairing e f = cc (e, f)

once_made : (reply : Final (Unit {0})) {P : Type 0} → ¬ (reply ≡ final.Starved) → OnceOver reply P → P
once_made (final.Done done) other p = p
once_made final.FailedTurn other p = p
once_made final.Starved other p = absurd (other refl)

module _ {F A X Task C : Type 0} (chain : Chain F A X Task C) where
  -- none is left
  pub chained_none : (place : ℕ) (at : X) (calls : List Call) (then_ : X → List Call → Type 0) → fairing_at chain.event chain.fairings place ≡ None → then_ at calls → Chained chain place at calls then_
  chained_none place at [] then_ none done = (none, done)
  chained_none place at (call ∷ calls) then_ none done = rw none done

  -- one was called
  pub chained_call : (place : ℕ) (at after : X) (call : Call) (calls : List Call) (then_ : X → List Call → Type 0) (fairing : Slot F) → fairing_at chain.event chain.fairings place ≡ Some fairing
      → FairingCall chain place fairing at call after → Chained chain (place + 1) after calls then_ → Chained chain place at (call ∷ calls) then_
  chained_call place at after call calls then_ fairing found called rest = rw found (after, called, rest)

module _ {F A X Task C Y : Type 0} (chain : Chain F A X Task C) (Whole : List Call → Y → Type 0) (first : Handle) (follow : Y → X → List Call → Type 0) where
  -- the next call has begun, or none is left
  pub begins_stand : (at : X) (calls : List Call) (place : ℕ) (next : Option (FairingTask Task)) → 1 ≤ chain.turns
      → Begins chain.event chain.fairings place (λ fairing task. Starts chain.calling fairing chain.handed task) next → CallsFrom chain Whole first follow at calls place
      → CallStands chain Whole first follow at calls next
  begins_stand at calls place None some begins from =
      between_on Whole first (chain.kept at).shutdown (chain.kept at).shutdown calls _ _ refl (λ rest over done. chained_none chain place at rest (follow over) begins done) from
  begins_stand at calls place (Some call) some begins from = record {
    before = at;
    fairing = begins.0;
    found = rw begins.2 begins.1;
    between = rw begins.2 from;
    making = rw begins.3 (making_begins chain.calling chain.gates chain.turns begins.0 chain.handed {before = at} {task = call.task} some begins.4);
  }

  -- a call was recorded
  pub called_next : (now : X) (calls calls' : List Call) (call : Call) (place : ℕ) (reply : Final (Unit {0})) → ¬ (reply ≡ final.Starved) → calls' ≡ calls ++ call ∷ []
      → call ≡ recorded (chain.which place) (fairing_answer reply) (chain.kept now) → Called chain Whole first follow now calls place reply → CallsFrom chain Whole first follow now calls' (place + 1)
  called_next now calls calls' call place reply other calls_is call_is called =
      between_call Whole first (chain.kept called.before).shutdown (chain.kept now).shutdown calls calls' call _ _ called.back (ap (λ c. c.word) call_is) calls_is
      (λ rest over done. chained_call chain place called.before now call rest (follow over) called.fairing called.found (record { reply = reply; made = once_made reply other called.made; kept_as = call_is }) done) called.between

  -- so stands the call of the fairing that was found at its place, which may be polled so often
  pub call_made : (now : X) (calls : List Call) (call : FairingTask Task) (n : ℕ) (fairing : Slot F) → n ≡ chain.turns → Some fairing ≡ fairing_at chain.event chain.fairings call.place
      → (was : CallsNow chain Whole first follow now calls call) → Making chain.calling chain.gates n fairing chain.handed was.before call.task now call.turn
  call_made now calls call n fairing n_is here was =
      subst (λ m. Making chain.calling chain.gates m fairing chain.handed was.before call.task now call.turn) (sym n_is)
      (subst (λ f. Making chain.calling chain.gates chain.turns f chain.handed was.before call.task now call.turn) (sym (same_fairing here was.found)) was.making)

  -- a turn of it was made
  pub call_turned : (now now' : X) (calls : List Call) (call : FairingTask Task) (task : Option Task) (gate : Gate) (n : ℕ) (fairing : Slot F) (made : Polled (Unit {0}))
      → n ≡ chain.turns → GateFits chain.gates gate → Some fairing ≡ fairing_at chain.event chain.fairings call.place
      → (made ≡ turn.Pending → call.turn + 1 < n)
      → (made ≡ turn.Pending → Polls chain.calling fairing chain.handed call.task now gate step.Pending task now')
      → ((before : X) → Making chain.calling chain.gates n fairing chain.handed before call.task now call.turn → HandsBack (chain.kept before).shutdown (chain.kept now').shutdown)
      → ((before : X) → Making chain.calling chain.gates n fairing chain.handed before call.task now call.turn → PolledAs chain.calling chain.gates n fairing chain.handed before made task now' (call.turn + 1))
      → CallsNow chain Whole first follow now calls call → CallTurned chain Whole first follow gate now' calls (record { place = call.place; task = task; turn = call.turn + 1 }) made
  call_turned now now' calls call task gate n fairing turn.Pending n_is fits here left polls back gives was =
      let making = subst (λ m. Making chain.calling chain.gates m fairing chain.handed was.before call.task now call.turn) n_is (call_made now calls call n fairing n_is here was) in
      let after = pends chain.calling chain.gates chain.turns fairing chain.handed was.before now now' gate call.task task call.turn (subst (λ m. call.turn + 1 < m) n_is (left refl)) fits making (polls refl) in
      (record { before = was.before; fairing = fairing; found = sym here; between = was.between; making = after.0 }, (making.gates, after.1))
  call_turned now now' calls call task gate n fairing (turn.Over reply) n_is fits here left polls back gives was =
      let making = call_made now calls call n fairing n_is here was in record {
        before = was.before;
        fairing = fairing;
        found = sym here;
        between = was.between;
        back = back was.before making;
        made = subst (λ m. OnceOver reply (Made chain.calling chain.gates m fairing chain.handed was.before reply now')) n_is (gives was.before making);
      }

  -- the handle is one of the first one's wire
  pub call_backs : (now now' : X) (calls : List Call) (call : FairingTask Task) (n : ℕ) (fairing : Slot F) → n ≡ chain.turns → Some fairing ≡ fairing_at chain.event chain.fairings call.place
      → ((before : X) → Making chain.calling chain.gates n fairing chain.handed before call.task now call.turn → HandsBack (chain.kept before).shutdown (chain.kept now').shutdown)
      → CallsNow chain Whole first follow now calls call → HandsBack first (chain.kept now').shutdown
  call_backs now now' calls call n fairing n_is here back was =
      hands_back_more first (chain.kept was.before).shutdown (chain.kept now').shutdown was.between.backs.hands_back (back was.before (call_made now calls call n fairing n_is here was))

-- all were called: the calls that were made lead to what they left
pub calls_end : {F A X Task C : Type 0} (chain : Chain F A X Task C) (start : X) (first : Handle) (now : X) (calls : List Call)
    → CallStands chain (λ cs at. Chained chain 0 start cs (Ends at)) first Ends now calls None → Chained chain 0 start calls (Ends now) × Backs first (chain.kept now).shutdown calls
calls_end chain start first now calls stands = (subst (λ cs. Chained chain 0 start cs (Ends now)) (append-nil calls) (stands.leads [] now (refl, refl)), stands.backs)

-- the place of a fairing is one of its list
and_then_some : {X Y : Type 0} (o : Option X) (f : X → Option Y) {y : Y} → option_and_then f o ≡ Some y → (x : X) × (o ≡ Some x)
and_then_some None f e = absurd (cc e)
and_then_some (Some x) f e = (x, refl)

pub found_within : {F : Type 0} (event : Callback) (fairings : SeenFairings F) (place : ℕ) {fairing : Slot F} → fairing_at event fairings place ≡ Some fairing → place < length (places_of event fairings.places)
found_within event fairings place found = let there = and_then_some (slice_get (places_of event fairings.places) place) (slice_get fairings.slots) found in slice_get_within (places_of event fairings.places) place there.0 there.1

-- fewer are to be called behind the next one
pub begins_falls : {F Task : Type 0} (event : Callback) (fairings : SeenFairings F) (place : ℕ) (next : Option (FairingTask Task)) (Starts : Slot F → Option Task → Type 0) → place < length (places_of event fairings.places)
    → Begins event fairings (place + 1) Starts next → to_call event fairings next + place < length (places_of event fairings.places)
begins_falls event fairings place None Starts within begins = omega (arith, within)
begins_falls event fairings place (Some call) Starts within begins = omega (arith, within, begins.2)
