-- How an exchange goes on: what completes a run from a later place completes it from an earlier one.
use Rattle.std.specs.Prelude.{◌≡◌, ◌++◌, ◌&&◌, not, ℕ, List, [], ◌∷◌, Bool, true, false, Option, None}
use Rattle.std.proofs.Common.{refl, sym, ◌∙◌}
use Rattle.rkt_http.specs.declared.method.Method.TheVariants.{Get}
use Rattle.rkt_http.specs.declared.outcome.Outcome.TheVariants.{Success, Error, Forward}
use Rattle.rkt_http.specs.declared.status.Status.{Status}
use Rattle.rkt_message.specs.Response.{ResponseOf}
use Rattle.rkt_request.specs.Lent.{Kept}
use Rattle.rkt_request.specs.Seen.{Seen}
use Rattle.rkt_router.specs.Callbacks.{Reply, RequestAt}
use Rattle.rkt_router.specs.Tries.{IsNextTry}
use Rattle.rkt_turn.specs.HandsBack.{HandsBack}
use Rattle.rkt_routing.specs.Beginning.{Beginning}
use Rattle.rkt_routing.specs.Found.{Found}
use Rattle.rkt_routing.specs.Routed.{TriesRoutes, HandlesError, Following, Settles, is_head, is_retried}
use Rattle.rkt_routing.specs.Relations.{Relations}
use Rattle.rkt_routing.specs.Invariant.{Between, Follows}
use Rattle.rkt_routing.specs.declared.run.Call.{Call}
use Rattle.rkt_routing.specs.Table.{SeenTable}
use Rattle.rkt_routing.specs.BetweenLaws.{between_call as between_call_of, between_on as between_on_of}

not_both : (head : Bool) → ¬ ((head && not true) ≡ true)
not_both true is = cc is
not_both false is = cc is

and_not_false : (head : Bool) → (head && not false) ≡ head
and_not_false true = refl
and_not_false false = refl

module _ {V B C S H HTask K KTask N : Type 0} (rel : Relations V B C S H HTask K KTask) (first : Beginning V B C) (table : SeenTable H K N) where
  -- what is left to be done is said in another way, and the handle is the same
  pub between_on : (kept kept' : Kept C) (calls : List Call) (Rest Rest' : List Call → Found V C S → Type 0) → kept'.shutdown ≡ kept.shutdown
      → ((rest : List Call) (found : Found V C S) → Rest' rest found → Rest rest found) → Between rel first table kept calls Rest → Between rel first table kept' calls Rest'
  between_on kept kept' = between_on_of _ first.at.kept.shutdown kept.shutdown kept'.shutdown

  -- one more call was recorded
  pub between_call : (kept after : Kept C) (calls calls' : List Call) (call : Call) (Rest Rest' : List Call → Found V C S → Type 0) → HandsBack kept.shutdown after.shutdown
      → call.word ≡ after.shutdown.seen → calls' ≡ calls ++ call ∷ [] → ((rest : List Call) (found : Found V C S) → Rest' rest found → Rest (call ∷ rest) found)
      → Between rel first table kept calls Rest → Between rel first table after calls' Rest'
  between_call kept after = between_call_of _ first.at.kept.shutdown kept.shutdown after.shutdown

module _ {V B C S H HTask K KTask N : Type 0} (rel : Relations V B C S H HTask K KTask) (table : SeenTable H K N) where
  -- no route is left
  pub walks_none : (behind : Option ℕ) (at : RequestAt V B C) (status : Status) (calls : List Call) (then_ : Reply S B → Seen V → Kept C → List Call → Type 0)
      → IsNextTry table.router.routes at.request behind None → then_ (Forward (at.body, status)) at.request at.kept calls → TriesRoutes rel table behind at status calls then_
  walks_none behind at status [] then_ none done = (none, done)
  walks_none behind at status (call ∷ calls) then_ none done = (None, none, done)

  -- what follows a walk that had a response, and one that had an error
  pub follows_success : (again : Bool) (answered : Following V C S) (response : ResponseOf S) (request : Seen V) (kept : Kept C) (calls : List Call)
      → answered response request kept calls → Follows rel table again answered (Success response) request kept calls
  follows_success true answered response request kept calls done = done
  follows_success false answered response request kept calls done = done

  pub follows_error : (again : Bool) (answered : Following V C S) (status : Status) (request : Seen V) (kept : Kept C) (calls : List Call)
      → HandlesError rel table status request kept calls answered → Follows rel table again answered (Error status) request kept calls
  follows_error true answered status request kept calls done = done
  follows_error false answered status request kept calls done = done

  -- one that forwarded and is walked once more, and one that forwarded for good
  pub follows_again : (again : Bool) (answered : Following V C S) (body : B) (status : Status) (request : Seen V) (kept : Kept C) (calls : List Call)
      → is_retried request.method again ≡ true
      → TriesRoutes rel table None (record { request = record request { method = Get }; body = body; kept = kept }) (record { code = 404 }) calls (Settles rel table answered)
      → Follows rel table again answered (Forward (body, status)) request kept calls
  follows_again true answered body status request kept calls is done = absurd (not_both (is_head request.method) is)
  follows_again false answered body status request kept calls is done = rw (sym (and_not_false (is_head request.method)) ∙ is) done

  pub follows_forward : (again : Bool) (answered : Following V C S) (body : B) (status : Status) (request : Seen V) (kept : Kept C) (calls : List Call)
      → is_retried request.method again ≡ false → HandlesError rel table status request kept calls answered
      → Follows rel table again answered (Forward (body, status)) request kept calls
  follows_forward true answered body status request kept calls last done = done
  follows_forward false answered body status request kept calls last done = rw (sym (and_not_false (is_head request.method)) ∙ last) done
