-- A handle that comes back again and again.
use Rattle.std.specs.Prelude.{◌≡◌, ◌<◌}
use Rattle.std.proofs.Common.{arith, refl, subst, sym, ◌∙◌}
use Rattle.rkt_turn.specs.HandsBack.{HandsBack}
use Rattle.rkt_turn.specs.Shutdown.{Handle}

pub hands_back_same : (h : Handle) → HandsBack h h
hands_back_same h = record { wire = refl; looked = omega arith; seen = λ some. refl }

pub hands_back_more : (a b c : Handle) → HandsBack a b → HandsBack b c → HandsBack a c
hands_back_more a b c one two = record {
  wire = two.wire ∙ one.wire;
  looked = omega (arith, one.looked, two.looked);
  seen = λ some. two.seen (subst (λ n. 0 < n) (sym (one.seen some)) some) ∙ one.seen some;
}
