-- What fairings told when they were attached.
use Rattle.std.specs.Prelude.{◌==◌, ℕ, List, Bool, false, not, slice_get}
use Rattle.std.specs.Option.{option_map_or}
use Rattle.rkt_http.specs.declared.key.Key.{Key}
use Rattle.rkt_fairing.specs.Info.{SeenInfo}

pub record SeenTold : Type 0 where
  pub key : Key
  pub info : SeenInfo

-- the fairing at a position has a key
abbrev pub has_key : List SeenTold → Key → ℕ → Bool
has_key told key place = option_map_or (λ one. one.key.0 == key.0) (slice_get told place) false

-- it has another one
abbrev pub is_other : List SeenTold → Key → ℕ → Bool
is_other told key place = not (has_key told key place)
