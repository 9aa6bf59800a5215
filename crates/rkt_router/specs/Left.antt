-- How many routes come behind one, in the order in which they are tried.
use Rattle.std.specs.Prelude.{ℕ, suc, ◌+◌, ℤ, List, [], ◌∷◌, Bool, true, false, Option, Some, None, if◌then◌else◌, nat_lt, slice_get}
use Rattle.std.specs.Int.Signed.{lt_z}
use Rattle.std.specs.Option.{option_map_or}
use Rattle.rkt_route.specs.declared.route.Route.{Route}

-- a rank and a position go before others
abbrev pub goes_before : ℤ → ℕ → ℤ → ℕ → Bool
goes_before a p b q = if lt_z a b then true else if lt_z b a then false else nat_lt p q

-- of routes of which the first stands at a position, those whose rank and position pass a test
abbrev pub count : {H S : Type 0} → (ℤ → ℕ → Bool) → ℕ → List (Route H S) → ℕ
count test q [] = 0
count test q (route ∷ routes) = (if test route.rank q then 1 else 0) + count test (suc q) routes

-- those behind a position, if it is one, and else none; and all behind none
abbrev pub is_behind : {H S : Type 0} → List (Route H S) → Option ℕ → ℤ → ℕ → Bool
is_behind routes None rank q = true
is_behind routes (Some p) rank q = option_map_or (λ route. goes_before route.rank p rank q) (slice_get routes p) false

-- how many are behind a position, or behind none
abbrev pub left : {H S : Type 0} → List (Route H S) → Option ℕ → ℕ
left routes behind = count (is_behind routes behind) 0 routes
