-- Lists of the positions of fairings, one for each event.
use Rattle.std.specs.Prelude.{◌≤◌, ◌<◌, ◌+◌, ◌∷◌, ◌++◌, [], ℕ, List, Bool, true, false, All, filter, vec_len, vec_capacity}
use Rattle.rkt_fairing.specs.declared.callback.Callback.{Callback}
use Rattle.rkt_fairing.specs.declared.callback.Callback.TheVariants.{Ignite, Liftoff, Request, Response, Shutdown}
use Rattle.rkt_fairing.specs.declared.kind.Kind.{Kind}
use Rattle.rkt_fairing.specs.declared.places.Places.{Places}

-- the positions of those that are called at each event, in the order in which they were attached
pub record SeenPlaces : Type 0 where
  pub ignite : List ℕ
  pub liftoff : List ℕ
  pub request : List ℕ
  pub response : List ℕ
  pub shutdown : List ℕ

abbrev pub no_places : SeenPlaces
no_places = record { ignite = []; liftoff = []; request = []; response = []; shutdown = [] }

-- the list of an event
abbrev pub places_of : Callback → SeenPlaces → List ℕ
places_of Ignite places = places.ignite
places_of Liftoff places = places.liftoff
places_of Request places = places.request
places_of Response places = places.response
places_of Shutdown places = places.shutdown

-- those of all lists, list by list
abbrev pub active_places : SeenPlaces → List ℕ
active_places places = places.ignite ++ (places.liftoff ++ (places.request ++ (places.response ++ places.shutdown)))

-- a list, with a position at its end where it joins
abbrev pub join_if : Bool → List ℕ → ℕ → List ℕ
join_if true places place = places ++ place ∷ []
join_if false places place = places

-- a position joins the list of each of its kinds, at the end
abbrev pub joined : Kind → ℕ → SeenPlaces → SeenPlaces
joined kind place places = record {
  ignite = join_if kind.ignite places.ignite place;
  liftoff = join_if kind.liftoff places.liftoff place;
  request = join_if kind.request places.request place;
  response = join_if kind.response places.response place;
  shutdown = join_if kind.shutdown places.shutdown place;
}

-- those that pass the test stay in each list
abbrev pub places_where : (ℕ → Bool) → SeenPlaces → SeenPlaces
places_where stays places = record {
  ignite = filter stays places.ignite;
  liftoff = filter stays places.liftoff;
  request = filter stays places.request;
  response = filter stays places.response;
  shutdown = filter stays places.shutdown;
}

-- each position is below a bound
pub record AreBelow (bound : ℕ) (places : SeenPlaces) : Type 0 where
  pub ignite : All (λ place. place < bound) places.ignite
  pub liftoff : All (λ place. place < bound) places.liftoff
  pub request : All (λ place. place < bound) places.request
  pub response : All (λ place. place < bound) places.response
  pub shutdown : All (λ place. place < bound) places.shutdown

-- as they stand in memory
abbrev pub seen_places : Places → SeenPlaces
seen_places places = record {
  ignite = places.ignite.items;
  liftoff = places.liftoff.items;
  request = places.request.items;
  response = places.response.items;
  shutdown = places.shutdown.items;
}

-- each list has room for so many more
pub record HaveRoom (places : Places) (more : ℕ) : Type 0 where
  pub ignite : vec_len places.ignite + more ≤ vec_capacity places.ignite
  pub liftoff : vec_len places.liftoff + more ≤ vec_capacity places.liftoff
  pub request : vec_len places.request + more ≤ vec_capacity places.request
  pub response : vec_len places.response + more ≤ vec_capacity places.response
  pub shutdown : vec_len places.shutdown + more ≤ vec_capacity places.shutdown
