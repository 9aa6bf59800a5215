-- That the routes of the sample keep the laws of handlers.
use Rattle.std.specs.Prelude.{◌≡◌, ◌<◌, zero, suc, ℕ, List, ◌∷◌, [], Option, Some, None, false}
use Rattle.std.proofs.Common.{⊎_elim, append-nil, arith, le_refl, refl, sym}
use Rattle.std.proofs.lemmas.List.Elements.{All-cons, All-nil}
use Rattle.rkt_cookie.specs.Cookie.{Parts}
use Rattle.rkt_cookie.specs.Jar.{addition}
use Rattle.rkt_cookie.specs.declared.change.Change.{Change}
use Rattle.rkt_http.specs.declared.outcome.Outcome.TheVariants.{Error}
use Rattle.rkt_request.specs.Guards.{bad_request}
use Rattle.rkt_request.specs.Lent.{Grows, Kept}
use Rattle.rkt_request.specs.LentLaws.{grows_again, grows_same}
use Rattle.rkt_router.specs.Callbacks.{GivesBack, Handed, KeepsHandler, Reply}
use Rattle.rkt_source.specs.Source.{Meaning}
use Rattle.rkt_source.specs.declared.source.Gate.{Gate}
use Rattle.rkt_sample.specs.Added.{AddsOnly, with_added}
use Rattle.rkt_sample.specs.Bodies.{ReadsAll, SampleBody, whole}
use Rattle.rkt_sample.specs.Greeting.{greeting}
use Rattle.rkt_sample.specs.Replies.{added_by, echoes, greets, left_by, reply_of, told_by}
use Rattle.rkt_sample.specs.Routing.{MayBeRefused, Replies, route_calling}
use Rattle.rkt_sample.specs.Told.{seen_then, with_word}
use Rattle.rkt_sample.specs.declared.route.SampleRoute.{SampleRoute}
use Rattle.rkt_sample.specs.declared.route.SampleRoute.TheVariants as route

-- a word that was seen stays seen
seen_stays : (word seen : ℕ) → 0 < seen → seen_then seen word ≡ seen
seen_stays word zero was = absurd (omega (arith, was))
seen_stays word (suc n) was = refl

-- what a cookie is added to has grown
pub grows_added : {C : Type 0} (cookie : Option Parts) (kept : Kept C) → Grows kept (with_added cookie kept)
grows_added None kept = grows_same kept kept refl
grows_added (Some cookie) kept = record {
  originals = refl;
  floor = refl;
  log = (addition cookie ∷ [], refl);
  cache = ([], sym (append-nil kept.cache));
  shutdown = record { wire = refl; looked = le_refl kept.shutdown.looked; seen = λ was. refl };
}

-- so has what a word is told to
pub grows_told : {C : Type 0} (word : Option ℕ) (kept : Kept C) → Grows kept (with_word word kept)
grows_told None kept = grows_same kept kept refl
grows_told (Some word) kept = record {
  originals = refl;
  floor = refl;
  log = ([], sym (append-nil kept.jar.log));
  cache = ([], sym (append-nil kept.cache));
  shutdown = record { wire = refl; looked = le_refl kept.shutdown.looked; seen = seen_stays word kept.shutdown.seen };
}

grows_left : {C : Type 0} (word : ℕ) (route : SampleRoute) (kept : Kept C) → Grows kept (left_by word route kept)
grows_left word route kept =
    grows_again kept (with_added (added_by route) kept) (left_by word route kept) (grows_added (added_by route) kept)
    (grows_told (told_by word route) (with_added (added_by route) kept))

greets_back : {S : Type 0} (R : Type 0) (whole : SampleBody S → Option (List ℕ)) (body : SampleBody S) (text : Option (List ℕ))
    → GivesBack {R = R} whole body (greets body text)
greets_back R whole body (Some text) = tt
greets_back R whole body None = refl

echoes_back : {S : Type 0} (R : Type 0) (whole : SampleBody S → Option (List ℕ)) (body : SampleBody S) (text : Option (List ℕ))
    → GivesBack {R = R} {B = SampleBody S} whole body (echoes text)
echoes_back R whole body (Some text) = tt
echoes_back R whole body None = tt

gives_back : {V S : Type 0} (R : Type 0) (meaning : S → Meaning) (route : SampleRoute) (handed : Handed V (SampleBody S))
    → GivesBack {R = R} (whole meaning) handed.body (reply_of meaning route handed)
gives_back R meaning route.Hello handed = greets_back R (whole meaning) handed.body (greeting handed.request)
gives_back R meaning route.Page handed = tt
gives_back R meaning route.HeadPage handed = refl
gives_back R meaning route.HeadGone handed = refl
gives_back R meaning route.PostForm handed = tt
gives_back R meaning route.DeleteForm handed = tt
gives_back R meaning route.Trial handed = refl
gives_back R meaning route.Tried handed = tt
gives_back R meaning route.Spoiled handed = tt
gives_back R meaning route.Flash handed = tt
gives_back R meaning route.Echo handed = echoes_back R (whole meaning) handed.body _
gives_back R meaning route.Stop handed = tt
gives_back R meaning route.Broken handed = tt

pub routes_keep : {V S C R : Type 0} (meaning : S → Meaning) (word : ℕ)
    → KeepsHandler (whole meaning) (route_calling {V = V} {C = C} {R = R} meaning word)
routes_keep meaning word = record {
  keeps = record {
    done = λ route handed before after gates reply is. rw is.1 (grows_left word route before);
    begun = λ route handed task before now gates n begun. grows_same before now begun.1;
  };
  forwards = λ route handed before after gates reply is. ⊎_elim
      (λ (same : reply ≡ reply_of meaning route handed). rw same (gives_back _ meaning route handed))
      (λ (errs : (reply ≡ Error bad_request) × MayBeRefused meaning route handed.body gates). rw errs.0 tt)
      is.0;
}

-- where no read is refused, a route replies just what it is to
pub replies_so : {V S R : Type 0} (meaning : S → Meaning) (route : SampleRoute) (handed : Handed V (SampleBody S))
    (gates : List Gate) (reply : Reply R (SampleBody S))
    → ReadsAll meaning handed.body gates
    → Replies meaning route handed gates reply
    → reply ≡ reply_of meaning route handed
replies_so meaning route handed gates reply reads is = ⊎_elim
    (λ (same : reply ≡ reply_of meaning route handed). same)
    (λ (errs : (reply ≡ Error bad_request) × MayBeRefused meaning route handed.body gates). absurd (errs.1.1 reads))
    is

abbrev IsAddition : Change → Type 0
IsAddition change = change.removal ≡ false

-- what is added to the log is no removal
pub adds_added : {C : Type 0} (cookie : Option Parts) (kept : Kept C) → AddsOnly kept (with_added cookie kept)
adds_added None kept = ([], All-nil IsAddition, sym (append-nil kept.jar.log))
adds_added (Some cookie) kept = (addition cookie ∷ [], All-cons IsAddition (addition cookie) [] refl (All-nil IsAddition), refl)

-- and nothing is added where a word is told
adds_told : {C : Type 0} (word : Option ℕ) (before kept : Kept C) → AddsOnly before kept → AddsOnly before (with_word word kept)
adds_told None before kept adds = adds
adds_told (Some word) before kept adds = adds

pub adds_only : {C : Type 0} (word : ℕ) (route : SampleRoute) (kept : Kept C) → AddsOnly kept (left_by word route kept)
adds_only word route kept =
    adds_told (told_by word route) kept (with_added (added_by route) kept) (adds_added (added_by route) kept)
