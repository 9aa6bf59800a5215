-- What the lines of a script offer, line by line.
use Rattle.std.proofs.Common.{suc, ◌≡◌, ◌-◌, ◌∙◌, ◌⊎◌, inl, inr, ℕ, List, [], ◌∷◌, Bool, true, false, Option, Some, None, length, take, ap, arith, sym, subst}
use Rattle.std.specs.List.{position_or_len}
use Rattle.std.specs.Option.{is_some, option_map}
use Rattle.std.proofs.lemmas.Bool.{false≢true}
use Rattle.rkt_script.proofs.Reader.{adds_once}
use Rattle.rkt_script.specs.Script.{Adds, AddsWithin, Lead, OffersOnce, content_of, is_shutdown, lines_of, offering}
use Rattle.rkt_script.specs.declared.script.ScriptRequest.{ScriptRequest}
use Rattle.rkt_script.specs.declared.script.TheConstants.{SCRIPT_LIMIT}

-- lines lead from some requests to one list of them
pub lead_once : (room : ℕ) (before : List ScriptRequest) (lines : List (List ℕ)) (one other : List ScriptRequest) → Lead room before lines one → Lead room before lines other → other ≡ one
lead_once room before [] one other is is' = is' ∙ sym is
lead_once room before (line ∷ lines) one other is is' =
    let same : is'.0 ≡ is.0 = adds_once before (content_of line) is.0 is'.0 is.1.1 is'.1.1 in
    lead_once (room - length line) is.0 lines one other is.2 (subst (λ (rs : List ScriptRequest). Lead (room - length line) rs lines other) same is'.2)

pub offers_one : OffersOnce
offers_one script one other is is' = lead_once SCRIPT_LIMIT [] (offering (lines_of script)) one other is is'

-- a line that is a `shutdown`
abbrev pub ends : List ℕ → Bool
ends line = is_shutdown (content_of line)

-- What is offered, by what was offered before the first `shutdown`, if there was one, or else by the requests so far and by the
-- lines that are left.
abbrev pub OffersSo : Option (List ScriptRequest) → ℕ → List ScriptRequest → List (List ℕ) → List ScriptRequest → Type 0
OffersSo None room before lines after = Lead room before (offering lines) after
OffersSo (Some offered) room before lines after = after ≡ offered

offering_more : (line : List ℕ) (lines : List (List ℕ)) → ends line ≡ false → offering (line ∷ lines) ≡ line ∷ offering lines
offering_more line lines is = let more : position_or_len ends (line ∷ lines) ≡ suc (position_or_len ends lines) = rw is (omega arith) in ap (λ (n : ℕ). take n (line ∷ lines)) more

offering_end : (line : List ℕ) (lines : List (List ℕ)) → ends line ≡ true → offering (line ∷ lines) ≡ []
offering_end line lines is = let none : position_or_len ends (line ∷ lines) ≡ 0 = rw is (omega arith) in ap (λ (n : ℕ). take n (line ∷ lines)) none

-- a `shutdown` leaves no request, and may stand anywhere
may_stand : (requests : List ScriptRequest) (line : List ℕ) → ends line ≡ true → Adds requests (content_of line) []
may_stand requests line is = Adds.shutdown is

leaves_none : (requests left : List ScriptRequest) (line : List ℕ) (next : List ScriptRequest) → ends line ≡ true → Adds left (content_of line) next → Adds requests (content_of line) next
leaves_none requests left line next is adds = subst (Adds requests (content_of line)) (adds_once left (content_of line) next [] adds (may_stand left line is)) (may_stand requests line is)

-- A line before which what is offered was told, and the requests were put by, where it is the first `shutdown`: it is read as it
-- would have been behind the requests.
pub record Tells (before after : Option (List ScriptRequest)) (requests left : List ScriptRequest) (line : List ℕ) : Type 0 where
  pub good : (next : List ScriptRequest) → Adds left (content_of line) next → Adds requests (content_of line) next
  pub bad : (next : List ScriptRequest) → Adds requests (content_of line) next → Adds left (content_of line) next
  pub offers : (room : ℕ) (next : List ScriptRequest) (lines : List (List ℕ)) (offered : List ScriptRequest) → AddsWithin room requests line next → OffersSo after (room - length line) next lines offered
      → OffersSo before room requests (line ∷ lines) offered

pub ended : {X : Type 0} (f : X → List ScriptRequest) (before after : Option X) (x : X) (requests left : List ScriptRequest) (line : List ℕ) → is_some before ≡ false → ends line ≡ true → after ≡ Some x → f x ≡ requests
    → Tells (option_map f before) (option_map f after) requests left line
ended f (Some y) after x requests left line none is told same = absurd (false≢true (sym none))
ended f None after x requests left line none is told same = record {
  good = λ next adds. leaves_none requests left line next is adds;
  bad = λ next adds. leaves_none left requests line next is adds;
  offers = λ room next lines offered adds offers.
      let here : offered ≡ requests = (rw told at offers) ∙ same in
      subst (λ (ls : List (List ℕ)). Lead room requests ls offered) (sym (offering_end line lines is)) here;
}

more_offers : {X : Type 0} (f : X → List ScriptRequest) (before : Option X) (requests : List ScriptRequest) (line : List ℕ) → (is_some before ≡ true) ⊎ (ends line ≡ false)
    → (room : ℕ) (next : List ScriptRequest) (lines : List (List ℕ)) (offered : List ScriptRequest) → AddsWithin room requests line next → OffersSo (option_map f before) (room - length line) next lines offered
    → OffersSo (option_map f before) room requests (line ∷ lines) offered
more_offers f (Some y) requests line why room next lines offered adds offers = offers
more_offers f None requests line (inl some) room next lines offered adds offers = absurd (false≢true some)
more_offers f None requests line (inr other) room next lines offered adds offers =
    subst (λ (ls : List (List ℕ)). Lead room requests ls offered) (sym (offering_more line lines other)) (next, adds, offers)

pub goes_on : {X : Type 0} (f : X → List ScriptRequest) (before after : Option X) (requests left : List ScriptRequest) (line : List ℕ) → (is_some before ≡ true) ⊎ (ends line ≡ false) → after ≡ before → left ≡ requests
    → Tells (option_map f before) (option_map f after) requests left line
goes_on f before after requests left line why told same = record {
  good = λ next adds. rw (sym same) adds;
  bad = λ next adds. rw same adds;
  offers = λ room next lines offered adds offers. more_offers f before requests line why room next lines offered adds (rw told at offers);
}
