use Rattle.std.proofs.Common.{◌≡◌, ◌∙◌, arith, refl, sym}
use Rattle.rkt_data.proofs.copy.resume.Goals as goal

pub returns-in_ok-buf-in-None-clause-ok : goal.returns-in_ok-buf-in-None-clause-ok
returns-in_ok-buf-in-None-clause-ok c = rw (sym c.take.ensures.value ∙ c.in-None.is) (λ n h. let none : n ≡ 0 = omega (arith, h) in rw none refl)
