-- What a crew begins with, and what comes back of it.
use Rattle.std.specs.Prelude.{◌≡◌, ◌<◌, ◌≤◌, ℕ, max, List, ◌∷◌, length, All, Option, Some, None, IfSome, IsSomeAnd}
use Rattle.rkt_turn.specs.HandsBack.{HandsBack}
use Rattle.rkt_turn.specs.Known.{last_number, HasAll}
use Rattle.rkt_turn.specs.Pass.{known, number_of, returned, IsPassOf, IsIdle, IsNew}
use Rattle.rkt_turn.specs.Shutdown.{Handle}
use Rattle.rkt_turn.specs.declared.known.Known.{Known}
use Rattle.rkt_turn.specs.declared.known.Returned.{Returned}
use Rattle.rkt_crew.specs.declared.post.Post.{Post}
use Rattle.rkt_turn.specs.declared.turnstile.Turnstile.{Turnstile}

-- the number of a post in a crew of so many, of which there is one at least
abbrev pub IsPostNumber : ℕ → ℕ → Type 0
IsPostNumber count n = (0 < n) × (n ≤ max 1 count)

-- what became of a handle: it comes back, or it was given away
abbrev pub HandsOver : Option Handle → Option Handle → Type 0
HandsOver old None = Unit {0}
HandsOver old (Some new) = IsSomeAnd old (λ lent. HandsBack lent new)

-- a word that the second handle has seen, where there is one, is the one that the first has seen
abbrev pub HasSeenWord : Option Handle → Option Handle → Type 0
HasSeenWord all None = Unit {0}
HasSeenWord all (Some theirs) = 0 < theirs.seen → IsSomeAnd all (λ handle. handle.seen ≡ theirs.seen)

module _ {N E : Type 0} where
  -- a job may begin with the name of a pass, with what the pass has seen, and with this handle
  abbrev pub IsReady : (N → List E → Handle → Type 0) → Known N E → Handle → Type 0
  IsReady ready v handle = IfSome v.name (λ name. ready name v.seen handle)

module _ {E : Type 0} where
  -- what came back of a post is done, and a word that its handle has seen is the one that this handle has seen
  abbrev pub IsDone : (ℕ → List E → Option Handle → Type 0) → Option Handle → Returned E → Type 0
  IsDone done handle r = (theirs : Option Handle) × done r.number r.mine theirs × HasSeenWord handle theirs

module _ {E : Type 0} (done : ℕ → List E → Option Handle → Type 0) (count : ℕ) (handle : Option Handle) where
  -- what came back of the posts of a crew, which are so many at most and one at least
  pub record IsCrew (back : List (Returned E)) : Type 0 where
    pub some : 0 < length back
    pub numbers : All (λ r. IsPostNumber count r.number) back
    pub each : All (IsDone done handle) back

  -- the list has what stood there before under the number 0, and else what came back of the post with a number
  pub record IsWorked (number : E → ℕ) (before after : List E) : Type 0 where
    pub back : List (Returned E)
    pub crew : IsCrew back
    pub all : HasAll number (record { number = 0; mine = before } ∷ back) after

module _ {S N E W R : Type 0} where
  -- what the pass of a post has entered, under its number
  abbrev pub from_post : Post S W R N E → Returned E
  from_post post = returned post.pass

  -- a word that the handle of a post has seen is the one that this handle has seen
  abbrev pub HasSeenOf : Option Handle → Post S W R N E → Type 0
  HasSeenOf handle post = HasSeenWord handle post.handle

module _ {S N E W R : Type 0} (lock : Turnstile S N E) (handle : Handle) (count : ℕ) where
  -- a post of this lock that has entered nothing, with this name and what the first pass has seen, and with this handle
  pub record IsMade (v : Known N E) (post : Post S W R N E) : Type 0 where
    pub lock_is : post.lock.now ≡ lock
    pub new : IsNew lock post.pass
    pub name : (known post.pass).name ≡ v.name
    pub seen : (known post.pass).seen ≡ v.seen
    pub handle_is : post.handle ≡ Some handle
    pub moment : post.moment ≡ 0
    pub trip : post.trip ≡ None
    pub number : IsPostNumber count (number_of post.pass)
    pub small : number_of post.pass < last_number

  -- the same, where the job may begin
  pub record IsFresh (ready : N → List E → Handle → Type 0) (post : Post S W R N E) : Type 0 where
    pub lock_is : post.lock.now ≡ lock
    pub new : IsNew lock post.pass
    pub ready_now : IsReady ready (known post.pass) handle
    pub handle_is : post.handle ≡ Some handle
    pub moment : post.moment ≡ 0
    pub trip : post.trip ≡ None
    pub number : IsPostNumber count (number_of post.pass)
    pub small : number_of post.pass < last_number

  -- a post of this lock that is done, whose handle, where it has that still, hands this one back
  pub record IsOver (done : ℕ → List E → Option Handle → Type 0) (post : Post S W R N E) : Type 0 where
    pub own : IsPassOf lock post.pass
    pub idle : IsIdle post.pass
    pub done_now : done (number_of post.pass) (known post.pass).mine post.handle
    pub hands : HandsOver (Some handle) post.handle
    pub number : IsPostNumber count (number_of post.pass)
