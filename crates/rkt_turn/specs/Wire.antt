-- The rule of a wire, and what each step on it tells.
use Rattle.std.specs.Prelude.{◌≡◌, ℕ, ◌+◌, ◌<◌, ◌⊎◌, max, List, [], ◌∷◌, ◌==◌}
use prog.Atomic.{either}
use mathlib.Core.Option.{some}
use lib.ListN.{get_elem?}
use Rattle.atomic_table.specs.Seated.{TableId}
use Rattle.atomic_table.specs.Table.{State, Me}
use Rattle.atomic_table.specs.declared.shared.Seat.{Seat}
use Rattle.rkt_turn.specs.declared.glance.Glance.{Glance}

-- what the first handle knows, and what a handle knows that was joined to another
abbrev pub blank : Glance
blank = record { seen = 0; twin = 0; looked = 0 }

-- 0 or the word
abbrev pub ZeroOr : ℕ → ℕ → Type 0
ZeroOr word x = (x ≡ 0) ⊎ (x ≡ word)

-- the handle has seen the word or none, and so has the one that was just joined to it
abbrev pub SeenBy : ℕ → Glance → Type 0
SeenBy word v = ZeroOr word v.seen × ZeroOr word v.twin

abbrev pub EachSeen : ℕ → List Glance → Type 0
EachSeen word views = (id : ℕ) (v : Glance) → get_elem? views id ≡ some v → SeenBy word v

-- the word that stands after an exchange of 0 for `new`
abbrev pub standing : ℕ → ℕ → ℕ
standing n new = either (n == 0) new n

module _ (allowed : ℕ → Type 0) where
  -- 0, or a word that the application allows
  abbrev pub IsWord : ℕ → Type 0
  IsWord n = (n ≡ 0) ⊎ allowed n

  -- the rule: there is one word, it is 0 or allowed, and each handle has seen it or none
  abbrev pub Wired : {S : Type 0} → State S Glance → Type 0
  Wired s = (w : ℕ) × (s.words ≡ w ∷ []) × IsWord w × EachSeen w s.views

  -- a look: the handle has seen what it found
  abbrev pub LooksAt : {S : Type 0} → Me S Glance → ℕ → Me S Glance → Type 0
  LooksAt me n after = (after ≡ (record { seen = n; twin = 0; looked = me.0.looked + 1 }, me.1)) × IsWord n × SeenBy n me.0

  -- a notification: the handle has seen the word that stands afterwards
  abbrev pub TripsBy : {S : Type 0} → ℕ → Me S Glance → ℕ → Me S Glance → Type 0
  TripsBy new me n after =
      (after ≡ (record { seen = standing n new; twin = 0; looked = me.0.looked }, me.1)) × IsWord n × SeenBy n me.0

-- a comparison: both handles had seen the word or none, and the one that is left has seen the greater
abbrev pub SettlesAt : {S : Type 0} → Me S Glance → ℕ → Me S Glance → Type 0
SettlesAt me n after =
    (after ≡ (record { seen = max me.0.seen me.0.twin; twin = 0; looked = me.0.looked }, me.1)) × SeenBy n me.0

-- a handle that took another in, until it compares
abbrev pub twinned : Glance → Glance → Glance
twinned v w = record { seen = v.seen; twin = w.seen; looked = max v.looked w.looked }

-- what a handle is made of: a seat of its wire, which holds nothing else, and the word that the seat has seen
pub record IsHandle (allowed : ℕ → Type 0) (wire : TableId) (seat : Seat (Unit {0}) Glance) (seen : ℕ) : Type 0 where
  pub own : seat.table_id ≡ wire
  pub word : 0 < seat.table_id.words
  pub view : seat.me ≡ (record { seen = seen; twin = 0; looked = seat.me.0.looked }, [])
  pub allowed_word : 0 < seen → allowed seen
