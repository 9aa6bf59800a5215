-- The handler that adds a cookie and leaves each request to another route.
use Rattle.std.specs.Prelude.{◌≡◌, ◌++◌, ◌∷◌, ℕ, [], List, Option, Some}
use Rattle.std.proofs.Common.{ap, refl, sym, ◌∙◌}
use Rattle.std.proofs.Math.Nat.{le_refl}
use Rattle.std.proofs.lemmas.List.{append-nil}
use Rattle.rkt_cookie.specs.declared.change.Change.{Change}
use Rattle.rkt_http.specs.declared.outcome.Outcome.TheVariants.{Forward}
use Rattle.rkt_request.specs.Lent.{Grows, Kept}
use Rattle.rkt_router.specs.CallbackLaws.{at_once_keeps}
use Rattle.rkt_router.specs.Callbacks.{Handed, KeepsHandler, Reply, at_once}
use Rattle.rkt_router.specs.Calling.{Calling}
use Rattle.cases_router.specs.declared.handlers.Marks.{Marks}

-- the log has one change more
pub record IsMarked {C : Type 0} (before after : Kept C) : Type 0 where
  pub change : Change
  pub marked : after ≡ record before { jar = record before.jar { log = before.jar.log ++ change ∷ [] } }

-- the body is left with 404, and the log has one change more
abbrev pub marks_calling : {V B C R : Type 0} → Calling Marks (Handed V B) (Kept C) (Reply R B) (Option B)
marks_calling = at_once (λ marks handed task. task ≡ Some handed.body)
    (λ marks handed before reply after. (reply ≡ Forward (handed.body, record { code = 404 })) × IsMarked before after)

marked_grows : {C : Type 0} (before after : Kept C) → IsMarked before after → Grows before after
marked_grows before after is = record {
  originals = ap (λ kept. kept.jar.originals) is.marked;
  floor = ap (λ kept. kept.jar.floor) is.marked;
  log = (is.change ∷ [], ap (λ kept. kept.jar.log) is.marked);
  cache = ([], ap (λ kept. kept.cache) is.marked ∙ sym (append-nil before.cache));
  shutdown = record {
    wire = ap (λ kept. kept.shutdown.wire) is.marked;
    looked = rw (ap (λ kept. kept.shutdown.looked) is.marked) (le_refl before.shutdown.looked);
    seen = λ was. ap (λ kept. kept.shutdown.seen) is.marked;
  };
}

pub marks_keeps : {V B C R : Type 0} (whole : B → Option (List ℕ))
    → KeepsHandler whole (marks_calling {V = V} {B = B} {C = C} {R = R})
marks_keeps whole = record {
  keeps = at_once_keeps _ _ (λ marks handed before after reply is. marked_grows before after is.1);
  forwards = λ marks handed before after gates reply is. rw is.0 refl;
}
