-- Which sentries of a rocket are reached, which of these are asked, and what comes of it.
use Rattle.std.specs.Prelude.{◌≡◌, ◌==◌, ◌&&◌, ◌+◌, ◌∷◌, ◌++◌, ℕ, zero, suc, [], List, Bool, true, false, Option, Some, None, IfSome, IsSomeAnd, filter, length, map, not, slice_get, if◌then◌else◌}
use Rattle.std.specs.List.{Contains, list_any}
use Rattle.std.specs.Option.{option_map_or}
use Rattle.rkt_http.specs.declared.key.Key.{Key}
use Rattle.rkt_route.specs.declared.route.Sentry.{Sentry}
use Rattle.rkt_ignition.specs.Sentinels.{SeenIgnited}
use Rattle.rkt_ignition.specs.declared.node.Node.{Node}

-- a sentry's place in the order of mounting is its position; S is the type of what sentries ask, V that of managed values

-- what a sentry says of itself
abbrev pub node_of : {S : Type 0} → Sentry S → Node
node_of sentry = record { key = sentry.key; parent = sentry.parent; specialized = sentry.specialized }

-- both are there and the same, or none is there
abbrev pub is_same_parent : Option Key → Option Key → Bool
is_same_parent None None = true
is_same_parent None (Some b) = false
is_same_parent (Some a) None = false
is_same_parent (Some a) (Some b) = a.0 == b.0

-- the positions of those that have a parent, or that have none; the first of them stands at a position
abbrev pub children_from : ℕ → List Node → Option Key → List ℕ
children_from at [] parent = []
children_from at (node ∷ nodes) parent =
    if is_same_parent node.parent parent then at ∷ children_from (at + 1) nodes parent else children_from (at + 1) nodes parent

abbrev pub children : List Node → Option Key → List ℕ
children nodes parent = children_from 0 nodes parent

-- it is specialised, or is not, as asked
abbrev pub is_such : Bool → Node → Bool
is_such specialized node = if specialized then node.specialized else not node.specialized

-- the one at a position is such, and has a key
abbrev pub has_key : List Node → Bool → Key → ℕ → Bool
has_key nodes specialized key at =
    option_map_or (λ node. is_such specialized node && (node.key.0 == key.0)) (slice_get nodes at) false

-- the one at a position is such, and none of those before it is such and has its key
abbrev pub is_first : List Node → Bool → List ℕ → ℕ → Bool
is_first nodes specialized before at =
    option_map_or (λ node. is_such specialized node && not (list_any (has_key nodes specialized node.key) before))
    (slice_get nodes at) false

-- of these, which come behind others, those that are first
abbrev pub firsts : List Node → Bool → List ℕ → List ℕ → List ℕ
firsts nodes specialized before [] = []
firsts nodes specialized before (at ∷ rest) =
    if is_first nodes specialized before at
    then at ∷ firsts nodes specialized (before ++ at ∷ []) rest
    else firsts nodes specialized (before ++ at ∷ []) rest

-- those whose parent is the key of the one at a position
abbrev pub opened : List Node → ℕ → List ℕ
opened nodes at = option_map_or (λ node. children nodes (Some node.key)) (slice_get nodes at) []

abbrev pub all_opened : List Node → List ℕ → List ℕ
all_opened nodes [] = []
all_opened nodes (at ∷ rest) = opened nodes at ++ all_opened nodes rest

-- a layer behind what was reached before, and so many layers more: of those in a layer that are not specialised the first of
-- each key reaches those whose parent is its key
abbrev pub layers : List Node → ℕ → List ℕ → List ℕ → List ℕ
layers nodes zero before layer = before ++ layer
layers nodes (suc more) before layer = layers nodes more (before ++ layer) (all_opened nodes (firsts nodes false before layer))

-- the first layer is those without a parent; there are no more layers than sentries, since each but an empty one has a new one
abbrev pub reached : List Node → List ℕ
reached nodes = layers nodes (length nodes) [] (children nodes None)

-- of the specialised ones that are reached the first of each key is asked
abbrev pub asked : List Node → List ℕ
asked nodes = firsts nodes true [] (reached nodes)

-- where one of these is not specialised, those whose parent is its key are among these too
abbrev pub IsClosed : List Node → List ℕ → Type 0
IsClosed nodes positions = (at child : ℕ) → Contains positions at
    → IsSomeAnd (slice_get nodes at) (λ node. node.specialized ≡ false)
    → Contains (opened nodes at) child → Contains positions child

-- those that are asked answer, each under its key
abbrev pub Answer : {S V : Type 0} → (S → SeenIgnited V → Bool → Type 0) → List (Sentry S) → SeenIgnited V → List ℕ
    → List (Key × Bool) → Type 0
Answer may sentries rocket [] [] = Unit {0}
Answer may sentries rocket [] (one ∷ more) = ⊥
Answer may sentries rocket (at ∷ rest) [] = ⊥
Answer may sentries rocket (at ∷ rest) (one ∷ more) =
    IfSome (slice_get sentries at) (λ sentry. (one.0 ≡ sentry.key) × may sentry.abort rocket one.1)
    × Answer may sentries rocket rest more

-- one has answered under this key that the launch is to be aborted
abbrev pub has_aborted : List (Key × Bool) → Key → Bool
has_aborted answers key = list_any (λ one. (one.0.0 == key.0) && one.1) answers

-- the one at a position is specialised, and the one of its key that was asked has answered that the launch is to be aborted
abbrev pub aborts : List Node → List (Key × Bool) → ℕ → Bool
aborts nodes answers at = option_map_or (λ node. node.specialized && has_aborted answers node.key) (slice_get nodes at) false

-- those that abort, in the order in which they are reached
pub record IsQueried {S V : Type 0} (may : S → SeenIgnited V → Bool → Type 0) (sentries : List (Sentry S))
    (rocket : SeenIgnited V) (aborting : List ℕ) : Type 0 where
  pub answers : List (Key × Bool)
  pub answered : Answer may sentries rocket (asked (map node_of sentries)) answers
  pub those : aborting ≡ filter (aborts (map node_of sentries) answers) (reached (map node_of sentries))
