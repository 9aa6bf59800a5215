-- How the pairs that collide are found, one after another.
use Rattle.std.specs.Prelude.{◌↔◌, ℕ, List}
use Rattle.std.specs.List.{AllPairs, IsAmong}
use Rattle.rkt_route.specs.Collisions.{CollidesAt, PairBefore}

-- all pairs that collide and come before this one, in order
pub record AreCollisionsBefore {X : Type 0} (Collide : X → X → Type 0) (items : List X) (end : ℕ × ℕ)
    (pairs : List (ℕ × ℕ)) : Type 0 where
  pub colliding : (pair : ℕ × ℕ) → IsAmong pairs pair ↔ (PairBefore pair end × CollidesAt Collide items pair)
  pub ordered : AllPairs PairBefore pairs
