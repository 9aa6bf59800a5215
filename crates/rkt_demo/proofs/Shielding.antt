-- What the fairings of the sample do: none is called for a request, and the shield for a response.
use Rattle.std.proofs.Common.{◌≡◌, ◌≤◌, ◌⊎◌, inl, inr, ℕ, max, List, [], ◌∷◌, refl, subst, arith}
use Rattle.rkt_router.specs.Callbacks.{RequestAt}
use Rattle.rkt_fairing.specs.Callbacks.{ResponseAt, quiet}
use Rattle.rkt_fairing.specs.Fairings.{SeenFairings}
use Rattle.rkt_fairing.specs.InSlot.{shielded, slot_request, slot_response}
use Rattle.rkt_fairing.specs.declared.slot.Slot.TheVariants.{Shield}
use Rattle.rkt_life.specs.declared.no_fairing.NoFairing.{NoFairing}
use Rattle.rkt_exchange.specs.Answers.{Leads as AnswersLead, Outgoing, answering}
use Rattle.rkt_exchange.specs.Asks.{Leads as AsksLead}
use Rattle.rkt_exchange.specs.Chain.{Chained, Ends}
use Rattle.rkt_request.specs.Seen.{Seen}
use Rattle.rkt_router.specs.Calls.{GateRule, Made}
use Rattle.rkt_router.specs.declared.turn.Final.{Final}
use Rattle.rkt_router.specs.declared.turn.Final.TheVariants.{Done, FailedTurn, Starved}
use Rattle.rkt_routing.specs.declared.run.Call.{Call}
use Rattle.rkt_shield.specs.Shield.{default_headers}
use Rattle.rkt_demo.specs.Sample.{shield_alone}

no_call : (call : Call) (calls : List Call) → call ∷ calls ≡ [] → ⊥
no_call call calls is = cc is

module _ {V B C : Type 0} (rule : GateRule) (turns : ℕ) where
  alone_asks : (first at : RequestAt V B C) (calls : List Call) → AsksLead (slot_request {F = NoFairing} {Task = Unit {0}} quiet) rule shield_alone turns first calls at → at ≡ first
  alone_asks first at [] leads = leads.1.1
  alone_asks first at (call ∷ calls) leads = absurd (no_call call calls leads.0)

  -- nothing is called for a request
  pub asked_nothing : (fairings : SeenFairings NoFairing) (first at : RequestAt V B C) (calls : List Call) → fairings ≡ shield_alone → AsksLead (slot_request {F = NoFairing} {Task = Unit {0}} quiet) rule fairings turns first calls at
      → at ≡ first
  asked_nothing fairings first at calls is leads =
      alone_asks first at calls (subst (λ (f : SeenFairings NoFairing). AsksLead (slot_request {F = NoFairing} {Task = Unit {0}} quiet) rule f turns first calls at) is leads)

module _ {V C S : Type 0} (rule : GateRule) (turns : ℕ) where
  -- a whole call of the shield
  shield_call : (request : Seen V) (before after : ResponseAt S C) (reply : Final (Unit {0})) → Made (slot_response {F = NoFairing} {Task = Unit {0}} quiet) rule (max turns 1) (Shield default_headers) request before reply after
      → after.response ≡ shielded default_headers before.response
  shield_call request before after (Done answer) made = rw made.gives refl
  shield_call request before after FailedTurn made = absurd (never made.gives.cause)
    where
      never : ⊥ ⊎ (max turns 1 ≤ 0) → ⊥
      never (inl fault) = fault
      never (inr last) = omega (arith, last)
  shield_call request before after Starved made = absurd (made.ended refl)

  last_left : (request : Seen V) (at left : ResponseAt S C) (calls : List Call) → Chained (answering (slot_response {F = NoFairing} {Task = Unit {0}} quiet) rule shield_alone turns request) 1 at calls (Ends left) → left ≡ at
  last_left request at left [] chained = chained.1.1
  last_left request at left (call ∷ calls) chained = absurd (no_call call calls chained.0)

  alone_answers : (first : Outgoing V C S) (left : ResponseAt S C) (calls : List Call) → AnswersLead (slot_response {F = NoFairing} {Task = Unit {0}} quiet) rule shield_alone turns first calls left
      → left.response ≡ shielded default_headers first.at.response
  alone_answers first left [] leads = absurd (cc leads.0)
  alone_answers first left (call ∷ calls) leads =
      let made = leads.1.made in
      rw (last_left first.request leads.0 left calls leads.2) (shield_call first.request first.at leads.0 leads.1.reply made)

  -- the shield is called for a response
  pub answered_shielded : (fairings : SeenFairings NoFairing) (first : Outgoing V C S) (left : ResponseAt S C) (calls : List Call) → fairings ≡ shield_alone
      → AnswersLead (slot_response {F = NoFairing} {Task = Unit {0}} quiet) rule fairings turns first calls left → left.response ≡ shielded default_headers first.at.response
  answered_shielded fairings first left calls is leads =
      alone_answers first left calls (subst (λ (f : SeenFairings NoFairing). AnswersLead (slot_response {F = NoFairing} {Task = Unit {0}} quiet) rule f turns first calls left) is leads)
