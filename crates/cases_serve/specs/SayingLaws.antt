-- That the handlers of the cases keep their laws.
use Rattle.std.specs.Prelude.{ℕ, List, Option}
use Rattle.rkt_router.specs.Callbacks.{KeepsHandler}
use Rattle.cases_serve.specs.Sayings.{saying}

pub saying_keeps : {V B C R : Type 0} (whole : B → Option (List ℕ))
    → KeepsHandler whole (saying {V = V} {B = B} {C = C} {R = R})
saying_keeps whole = record {
  keeps = record {
    done = λ handler handed before after gates reply is. is.2;
    begun = λ handler handed task before now gates n begun. begun.1;
  };
  forwards = λ handler handed before after gates reply is. rw is.1 tt;
}
