-- The numbers of posts, the words of handles that come back, and what comes back of a crew.
use Rattle.std.proofs.Common.{◌≡◌, ℕ, ◌+◌, ◌<◌, ◌≤◌, ◌++◌, ◌∷◌, [], List, length, map, Bool, true, false, cond, eqb, All, Option, None, Some, append_assoc, sym, refl, ap, ◌∙◌, subst, arith}
use Rattle.std.proofs.lemmas.Bool.{eqb-true}
use Rattle.std.proofs.lemmas.List.{append-nil, length-map}
use Rattle.std.proofs.lemmas.List.Elements.{All-nil, All-cons, All-map, All-same}
use Rattle.rkt_crew.specs.Crew.{IsPostNumber, IsDone, IsCrew, IsOver, HasSeenOf, HasSeenWord, from_post}
use Rattle.rkt_turn.specs.Booked.{StartsWith}
use Rattle.rkt_turn.specs.HandsBack.{HandsBack}
use Rattle.rkt_turn.specs.Known.{drew, last_number}
use Rattle.rkt_turn.specs.Shutdown.{Handle}
use Rattle.rkt_turn.specs.declared.known.Known.{Known}
use Rattle.rkt_turn.specs.declared.known.Returned.{Returned}
use Rattle.rkt_crew.specs.declared.post.Post.{Post}
use Rattle.rkt_turn.specs.declared.turnstile.Turnstile.{Turnstile}

pub post_number : (count len next : ℕ) → 0 < next → next ≤ 1 + len → len < count → IsPostNumber count next
post_number count len next some most less = (some, omega (arith, most, less))

pub one_number : (count : ℕ) → IsPostNumber count 1
one_number count = (omega arith, omega arith)

-- a word that was seen once is seen by a handle that comes back later
pub seen_still : (h last : Handle) (theirs : Option Handle) → HasSeenWord (Some h) theirs → HandsBack h last → HasSeenWord (Some last) theirs
seen_still h last None word back = tt
seen_still h last (Some t) word back = λ some. back.seen (subst (λ k. 0 < k) (sym (word some)) some) ∙ word some

-- a handle has seen what it has seen
seen_same : (theirs : Option Handle) → HasSeenWord theirs theirs
seen_same None = tt
seen_same (Some h) = λ some. refl

next_some : (n : ℕ) (b : Bool) → 0 < cond b last_number (n + 1)
next_some n true = omega arith
next_some n false = omega arith

next_most : (n : ℕ) → cond (eqb n last_number) last_number (n + 1) ≤ n + 1
next_most n = by_test (eqb n last_number) refl
  where
    by_test : (b : Bool) → eqb n last_number ≡ b → cond b last_number (n + 1) ≤ n + 1
    by_test true e = let same : n ≡ last_number = eqb-true n last_number e in omega arith
    by_test false e = omega arith

module _ {N E : Type 0} where
  pub drew_some : (v : Known N E) → 0 < (drew v).next
  drew_some v = next_some v.next (eqb v.next last_number)

  pub drew_most : (v : Known N E) → (drew v).next ≤ v.next + 1
  drew_most v = next_most v.next

module _ {E : Type 0} where
  pub starts_again : (a b c : List E) → StartsWith a b → StartsWith b c → StartsWith a c
  starts_again a b c s t = (t.0 ++ s.0, s.1 ∙ (ap (λ l. l ++ s.0) t.1 ∙ append_assoc c t.0 s.0))

  pub done_of : (done : ℕ → List E → Option Handle → Type 0) (r s : Returned E) (g h : Option Handle) → s ≡ r → h ≡ g → done r.number r.mine g → IsDone done h s
  done_of done r s g h same is d = subst (λ (z : Returned E × Option Handle). IsDone done z.1 z.0) (λ i. (sym same i, sym is i)) (g, d, seen_same g)

module _ {E : Type 0} (done : ℕ → List E → Option Handle → Type 0) (count : ℕ) (handle : Option Handle) where
  pub crew_of_one : (r : Returned E) (rest back : List (Returned E)) → back ≡ r ∷ rest → rest ≡ [] → IsPostNumber count r.number → IsDone done handle r → IsCrew done count handle back
  crew_of_one r rest back is none number it =
      let one : back ≡ r ∷ [] = is ∙ ap (λ rs. r ∷ rs) none in record {
        some = subst (λ rs. 0 < length rs) (sym one) (omega arith);
        numbers = All-same (λ q. IsPostNumber count q.number) back (r ∷ []) one (All-cons (λ q. IsPostNumber count q.number) r [] number (All-nil (λ q. IsPostNumber count q.number)));
        each = All-same (IsDone done handle) back (r ∷ []) one (All-cons (IsDone done handle) r [] it (All-nil (IsDone done handle)));
      }

module _ {S N E W R : Type 0} where
  pub crew_of : (lock : Turnstile S N E) (done : ℕ → List E → Option Handle → Type 0) (before after : Handle) (count : ℕ) (posts : List (Post S W R N E)) (rest back : List (Returned E))
      → back ≡ map from_post posts ++ rest → rest ≡ [] → 0 < length posts → All (IsOver lock before count done) posts → All (HasSeenOf (Some after)) posts → IsCrew done count (Some after) back
  crew_of lock done before after count posts rest back is none some over words =
      let all : back ≡ map from_post posts = is ∙ ap (λ rs. map from_post posts ++ rs) none ∙ append-nil (map from_post posts) in record {
        some = subst (λ rs. 0 < length rs) (sym all) (subst (λ n. 0 < n) (sym (length-map posts from_post)) some);
        numbers = All-same (λ r. IsPostNumber count r.number) back _ all (All-map (λ r. IsPostNumber count r.number) from_post posts (λ k d less. (over k d less).number));
        each = All-same (IsDone done (Some after)) back _ all (All-map (IsDone done (Some after)) from_post posts (λ k d less. (_, (over k d less).done_now, words k d less)));
      }
