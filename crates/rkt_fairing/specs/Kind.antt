-- What kinds a fairing is of.
use Rattle.std.specs.Prelude.{◌≡◌, ◌||◌, ◌∷◌, ℕ, [], List, Bool, codes, filter}
use Rattle.std.specs.List.{join_by}
use Rattle.rkt_fairing.specs.declared.kind.Kind.{Kind}

-- the kinds of both
abbrev pub union : Kind → Kind → Kind
union a b = record {
  ignite = a.ignite || b.ignite;
  liftoff = a.liftoff || b.liftoff;
  request = a.request || b.request;
  response = a.response || b.response;
  shutdown = a.shutdown || b.shutdown;
  singleton = a.singleton || b.singleton;
}

-- it has every kind of the other one: to add these changes nothing
abbrev pub Has : Kind → Kind → Type 0
Has kind other = union kind other ≡ kind

-- each kind with its name, and whether it is there, in the order of a rocket's life
abbrev pub named_flags : Kind → List (Bool × List ℕ)
named_flags kind =
    (kind.ignite, codes "ignite") ∷ (kind.liftoff, codes "liftoff") ∷ (kind.request, codes "request")
    ∷ (kind.response, codes "response") ∷ (kind.shutdown, codes "shutdown")
    ∷ (kind.singleton, codes "singleton") ∷ []

-- the names of those that are there, with commas between them
abbrev pub kind_text : Kind → List ℕ
kind_text kind = join_by (λ flag. flag.1) (codes ", ") (filter (λ flag. flag.0) (named_flags kind))
