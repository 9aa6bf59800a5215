-- Tests of bytes, as facts.
use Rattle.std.proofs.Common.{◌≡◌, ℕ, Bool, true, false, ◌==◌, arith, sym, ◌∙◌, ap}
use Rattle.std.proofs.lemmas.Bool.{false≢true}
use Rattle.std.proofs.lemmas.Bool.Decides.{nat_tests}

pub equal : (a b : ℕ) → (a == b) ≡ true → a ≡ b
equal a b e = grind (arith, nat_tests, e)

pub differ : (a b : ℕ) → (a == b) ≡ false → ¬ (a ≡ b)
differ a b e same = grind (arith, nat_tests, e, same)

-- a test that one byte fails is passed by another
pub clash : (test : ℕ → Bool) (b c : ℕ) → b ≡ c → test c ≡ false → test b ≡ true → ⊥
clash test b c e fails passes = false≢true (sym (ap test e ∙ fails) ∙ passes)
