-- A listener gives its next link.
use Rattle.std.proofs.Common.{zero, suc, ◌≡◌, ◌+◌, ◌++◌, ℕ, List, [], ◌∷◌, take, drop, map, ap, add-one}
use Rattle.rkt_link.specs.Memory.{LinkInMemory, asked_of}

asks_suc : (links : List LinkInMemory) (given : ℕ) (link : LinkInMemory) (rest : List LinkInMemory) → drop given links ≡ link ∷ rest
    → map asked_of (take (suc given) links) ≡ map asked_of (take given links) ++ asked_of link ∷ []
asks_suc [] zero link rest left = absurd (cc left)
asks_suc [] (suc n) link rest left = absurd (cc left)
asks_suc (k ∷ ks) zero link rest left = let same : k ≡ link = cc left in ap (λ x. asked_of x ∷ []) same
asks_suc (k ∷ ks) (suc n) link rest left = ap (λ asks. asked_of k ∷ asks) (asks_suc ks n link rest left)

-- what was given, and one link more
pub asks_more : (links : List LinkInMemory) (given : ℕ) (link : LinkInMemory) (rest : List LinkInMemory) → drop given links ≡ link ∷ rest
    → map asked_of (take (given + 1) links) ≡ map asked_of (take given links) ++ asked_of link ∷ []
asks_more links given link rest left = rw add-one (asks_suc links given link rest left)
