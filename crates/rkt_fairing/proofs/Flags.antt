-- Two kinds that are compared flag by flag.
use Rattle.std.proofs.Common.{◌≡◌, ◌&&◌, ◌↔◌, Bool, true, false, IsTrue, refl, ap, sym, ◌∙◌}
use mathlib.Core.Bool.{beq}
use Rattle.rkt_fairing.specs.declared.kind.Kind.{Kind}

-- the flags of both, compared one by one
abbrev pub same_flags : Kind → Kind → Bool
same_flags a b =
    beq a.ignite b.ignite && (beq a.liftoff b.liftoff && (beq a.request b.request && (beq a.response b.response && (beq a.shutdown b.shutdown && beq a.singleton b.singleton))))

beq_same : (p q : Bool) → beq p q ≡ true → p ≡ q
beq_same true true h = refl
beq_same false false h = refl
beq_same true false h = cc
beq_same false true h = cc

beq_refl : (p : Bool) → beq p p ≡ true
beq_refl true = refl
beq_refl false = refl

and_both : (p q : Bool) → (p && q) ≡ true → (p ≡ true) × (q ≡ true)
and_both true q h = (refl, h)
and_both false q h = cc

same_by_flags : (a b : Kind) → a.ignite ≡ b.ignite → a.liftoff ≡ b.liftoff → a.request ≡ b.request → a.response ≡ b.response → a.shutdown ≡ b.shutdown → a.singleton ≡ b.singleton → a ≡ b
same_by_flags a b p q r s t u =
    ap (λ (x : Bool). record a { ignite = x }) p
    ∙ ap (λ (x : Bool). record a { ignite = b.ignite; liftoff = x }) q
    ∙ ap (λ (x : Bool). record a { ignite = b.ignite; liftoff = b.liftoff; request = x }) r
    ∙ ap (λ (x : Bool). record b { response = x; shutdown = a.shutdown; singleton = a.singleton }) s
    ∙ ap (λ (x : Bool). record b { shutdown = x; singleton = a.singleton }) t
    ∙ ap (λ (x : Bool). record b { singleton = x }) u

pub same_of_flags : (a b : Kind) → same_flags a b ≡ true → a ≡ b
same_of_flags a b h =
    let h1 = and_both _ _ h in
    let h2 = and_both _ _ h1.1 in
    let h3 = and_both _ _ h2.1 in
    let h4 = and_both _ _ h3.1 in
    let h5 = and_both _ _ h4.1 in
    same_by_flags a b (beq_same _ _ h1.0) (beq_same _ _ h2.0) (beq_same _ _ h3.0) (beq_same _ _ h4.0) (beq_same _ _ h5.0) (beq_same _ _ h5.1)

pub flags_of_same : (a b : Kind) → a ≡ b → same_flags a b ≡ true
flags_of_same a b h = rw h (rw (beq_refl b.ignite, beq_refl b.liftoff, beq_refl b.request, beq_refl b.response, beq_refl b.shutdown, beq_refl b.singleton) refl)

-- a test of them decides whether they are the same
pub flags_decide : (a b : Kind) (result : Bool) → result ≡ same_flags a b → IsTrue result ↔ (a ≡ b)
flags_decide a b result is = (λ h. same_of_flags a b (sym is ∙ h), λ h. is ∙ flags_of_same a b h)
