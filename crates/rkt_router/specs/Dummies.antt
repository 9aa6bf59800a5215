-- The handler that answers nothing.
use Rattle.std.specs.Prelude.{◌≡◌, ℕ, List, Option, ⊤}
use Rattle.rkt_http.specs.declared.outcome.Outcome.TheVariants.{Success}
use Rattle.rkt_request.specs.Lent.{Kept}
use Rattle.rkt_message.specs.Response.{empty_response}
use Rattle.rkt_router.specs.CallbackLaws.{at_once_keeps}
use Rattle.rkt_request.specs.LentLaws.{grows_same}
use Rattle.rkt_router.specs.Callbacks.{Handed, KeepsHandler, Reply, at_once}
use Rattle.rkt_router.specs.Calling.{Calling}
use Rattle.rkt_router.specs.declared.dummy.Dummy.{Dummy}

-- it answers an empty response and changes nothing
abbrev pub dummy_calling : {V B C R : Type 0} → Calling Dummy (Handed V B) (Kept C) (Reply R B) (Unit {0})
dummy_calling =
    at_once (λ dummy handed task. ⊤) (λ dummy handed before reply after. (reply ≡ Success empty_response) × (after ≡ before))

pub dummy_keeps : {V B C R : Type 0} (whole : B → Option (List ℕ))
    → KeepsHandler whole (dummy_calling {V = V} {B = B} {C = C} {R = R})
dummy_keeps whole = record {
  keeps = at_once_keeps _ _ (λ dummy handed before after reply is. grows_same before after is.1);
  forwards = λ dummy handed before after gates reply is. rw is.0 tt;
}
