-- Which exit statuses an answer leaves out.
use Rattle.std.proofs.Common.{◌≡◌, ◌⊎◌, ℕ, inl, inr, arith}
use Rattle.rkt_script.specs.Words.{IsStatus}

-- what a text that is written is answered with
abbrev pub Wrote : ℕ → Type 0
Wrote status = (status ≡ 0) ⊎ (status ≡ 5) ⊎ (status ≡ 6)

pub wrote_status : (status : ℕ) → Wrote status → IsStatus status
wrote_status status (inl none) = inl none
wrote_status status (inr (inl five)) = inr (inr (inr (inr (inr (inl five)))))
wrote_status status (inr (inr six)) = inr (inr (inr (inr (inr (inr six)))))

pub wrote_not : (status other : ℕ) → Wrote status → status ≡ other → ¬ (other ≡ 0) → ¬ (other ≡ 5) → ¬ (other ≡ 6) → ⊥
wrote_not status other (inl none) is not_0 not_5 not_6 = absurd (omega (arith, none, is, not_0))
wrote_not status other (inr (inl five)) is not_0 not_5 not_6 = absurd (omega (arith, five, is, not_5))
wrote_not status other (inr (inr six)) is not_0 not_5 not_6 = absurd (omega (arith, six, is, not_6))

pub wrote_not_1 : (status : ℕ) → Wrote status → status ≡ 1 → ⊥
wrote_not_1 status wrote is = wrote_not status 1 wrote is (λ e. absurd (omega arith)) (λ e. absurd (omega arith)) (λ e. absurd (omega arith))

pub wrote_not_2 : (status : ℕ) → Wrote status → status ≡ 2 → ⊥
wrote_not_2 status wrote is = wrote_not status 2 wrote is (λ e. absurd (omega arith)) (λ e. absurd (omega arith)) (λ e. absurd (omega arith))

pub wrote_not_3 : (status : ℕ) → Wrote status → status ≡ 3 → ⊥
wrote_not_3 status wrote is = wrote_not status 3 wrote is (λ e. absurd (omega arith)) (λ e. absurd (omega arith)) (λ e. absurd (omega arith))

pub wrote_not_4 : (status : ℕ) → Wrote status → status ≡ 4 → ⊥
wrote_not_4 status wrote is = wrote_not status 4 wrote is (λ e. absurd (omega arith)) (λ e. absurd (omega arith)) (λ e. absurd (omega arith))

-- A write that did not fault was whole, or there was no memory.
pub wrote_unless : {Fault : Type 0} (status : ℕ) → Wrote status → (status ≡ 5 → Fault) → ¬ Fault → (status ≡ 0) ⊎ (status ≡ 6)
wrote_unless status (inl none) cause unwritten = inl none
wrote_unless status (inr (inl five)) cause unwritten = absurd (unwritten (cause five))
wrote_unless status (inr (inr six)) cause unwritten = inr six
