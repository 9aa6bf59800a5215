-- A handle that is lent again and again.
use Rattle.std.proofs.Common.{◌≡◌, ◌<◌, ℕ, zero, suc, Bool, true, false, Option, Some, None, max, refl, sym, subst, arith}
use Rattle.std.specs.Prelude.{IfSome}
use Rattle.rkt_turn.specs.Shutdown.{Handle}
use Rattle.rkt_turn.specs.HandsBack.{HandsBack}

-- a handle that took back what was split off
pub rejoined : (before lent after other : Handle) → lent ≡ before → after.wire ≡ lent.wire → after.looked ≡ max lent.looked other.looked
    → (0 < lent.seen → after.seen ≡ lent.seen) → HandsBack before after
rejoined before lent after other same wire looked seen =
    let back : HandsBack lent after = record { wire = wire; looked = omega (arith, looked); seen = seen } in
    subst (λ (h : Handle). HandsBack h after) same back

-- a handle that had seen a word has still
pub seen_on : (old new : Handle) → HandsBack old new → 0 < old.seen → 0 < new.seen
seen_on old new back some = subst (λ (n : ℕ). 0 < n) (sym (back.seen some)) some

-- what would show a Trip that is not there has seen none
never : (n : ℕ) → (0 < n → false ≡ true) → n ≡ 0
never zero shows = refl
never (suc n) shows = absurd (cc (shows (omega arith)))

none_seen : (back : Option Handle) → IfSome back (λ b. 0 < b.seen → false ≡ true) → IfSome back (λ b. b.seen ≡ 0)
none_seen None shows = tt
none_seen (Some b) shows = never b.seen shows

-- where two handles have seen a word only with a Trip, so has the one that took the other in
pub seen_tripped : (trip : Bool) (own : Handle) (back : Option Handle) (all : Handle) → (0 < own.seen → trip ≡ true) → IfSome back (λ b. 0 < b.seen → trip ≡ true)
    → (own.seen ≡ 0 → IfSome back (λ b. b.seen ≡ 0) → all.seen ≡ 0) → 0 < all.seen → trip ≡ true
seen_tripped true own back all mine theirs none some = refl
seen_tripped false own back all mine theirs none some = absurd (omega (arith, some, none (never own.seen mine) (none_seen back theirs)))
