-- That pages keep the laws of callbacks.
use Rattle.std.specs.Prelude.{ℕ, List, Option}
use Rattle.rkt_router.specs.Callbacks.{Keeps, KeepsHandler}
use Rattle.cases_exchange.specs.Pages.{catching, trying}

pub trying_keeps : {V B C R : Type 0} (whole : B → Option (List ℕ))
    → KeepsHandler whole (trying {V = V} {B = B} {C = C} {R = R} whole)
trying_keeps whole = record {
  keeps = record {
    done = λ page handed before after gates reply is. is.0;
    begun = λ page handed task before now gates n is. is.0;
  };
  forwards = λ page handed before after gates reply is. is.1;
}

pub catching_keeps : {V C R : Type 0} → Keeps (catching {V = V} {C = C} {R = R})
catching_keeps = record {
  done = λ page refused before after gates answer is. is;
  begun = λ page refused task before now gates n is. is.0;
}
