-- Values, each under a number.
use Rattle.std.specs.Prelude.{ℕ, List, Option, nat_eq}
use Rattle.std.specs.Map.{lookup}
use Rattle.rkt_http.specs.declared.key.Key.{Key}

-- the value under a key
abbrev pub value_at : {V : Type 0} → Key → List (ℕ × V) → Option V
value_at key values = lookup (nat_eq key.0) values
