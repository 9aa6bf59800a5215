-- Which requests are for `/stop`, and what follows from that: how many requests are served, and which word `/stop` tells.
use Rattle.std.specs.Prelude.{◌≡◌, ◌≤◌, ℕ, List, [], ◌∷◌, Some, codes, length, slice_get, take}
use Rattle.std.specs.List.{AllByRecursion}
use Rattle.rkt_uri.specs.Origin.{Spells, Target, segments_of}
use Rattle.rkt_uri.specs.declared.origin_place.Profile.TheVariants.{Request}
use Rattle.rkt_script.specs.Script.{Offers}
use Rattle.rkt_script.specs.declared.script.ScriptRequest.{ScriptRequest}

-- the request is for `/stop`: its target spells an origin whose path has the one decoded segment `stop`
abbrev pub IsStop : ScriptRequest → Type 0
IsStop request = (target : Target) × Spells Request request.head.target target × (segments_of target ≡ codes "stop" ∷ [])

-- none of these requests is
abbrev pub NoneStops : List ScriptRequest → Type 0
NoneStops requests = AllByRecursion (λ request. ¬ IsStop request) requests

-- so many requests stand before the first one for `/stop`; where there is none, that is all of them
pub record StandBefore (requests : List ScriptRequest) (n : ℕ) : Type 0 where
  pub within : n ≤ length requests
  pub before : NoneStops (take n requests)
  pub first : (request : ScriptRequest) → slice_get requests n ≡ Some request → IsStop request

-- so many requests may be served of these: each front of them with none for `/stop` is, and so all of them where none is
pub record MayServe (requests : List ScriptRequest) (n : ℕ) : Type 0 where
  pub within : n ≤ length requests
  pub front : (k : ℕ) → k ≤ length requests → NoneStops (take k requests) → k ≤ n

-- so many may be of what a script offers
abbrev pub IsCount : List ℕ → ℕ → Type 0
IsCount script n = (requests : List ScriptRequest) × Offers script requests × MayServe requests n

-- The word that `/stop` tells in the exchange of a request, where it was this one in the exchange before. From the
-- first request for `/stop` on it is 2, that of the reason of the second launch; until then it is none, 0.
pub record FollowsWord (word : ℕ) (request : ScriptRequest) (next : ℕ) : Type 0 where
  pub stop : IsStop request → next ≡ 2
  pub other : ¬ IsStop request → next ≡ word
