-- What a source means that joins sources keeps the laws of a source.
use Rattle.std.proofs.Common.{◌≡◌, ◌≤◌, Option, None, Some, IsTrue, refl, ap, arith}
use Rattle.std.proofs.lemmas.Bool.{or_right}
use Rattle.rkt_base.specs.declared.poll.Poll.{Poll}
use Rattle.rkt_base.specs.declared.poll.Poll.TheVariants.{Ready, Pending}
use Rattle.rkt_stream.specs.Flat.{Flat, ShutsItem, flat_meaning, waits_left, stream_waits}
use Rattle.rkt_stream.specs.Flow.{Flow}
use Rattle.rkt_source.specs.Source.{Meaning, Shuts}

module _ {S I : Type 0} (flow : S → Flow I) (meaning : I → Meaning) where
  pub flat_shut_is_warned : (f : Flat S I)
      → IsTrue (flat_meaning flow meaning f).shut
      → IsTrue (flat_meaning flow meaning f).warned
  flat_shut_is_warned f h = or_right f.warned f.refused h

  pub flat_waits_within : (f : Flat S I) → (flat_meaning flow meaning f).pended ≤ (flat_meaning flow meaning f).pendings
  flat_waits_within f = omega arith

  module _ (shuts : I → Poll (Unit {0}) → I → Type 0)
      (keeps : (x y : I) (answer : Poll (Unit {0})) → shuts x answer y → Shuts (meaning x) answer (meaning y)) where
    shuts_at : (o : Option I) (a b : Flat S I) (answer : Poll (Unit {0}))
        → a.running.item ≡ o
        → waits_left flow meaning a.running ≤ stream_waits flow meaning a.begun
        → ShutsItem shuts o a answer b
        → Shuts (flat_meaning flow meaning a) answer (flat_meaning flow meaning b)
    shuts_at None a b answer is within h = rw (h.1, h.0) refl
    shuts_at (Some x) a b Pending is within h =
        let k = keeps x h.0 Pending h.1 in
        let p = k.1.0 in
        let q = k.1.1 in
        let bound : (meaning h.0).pendings ≡ (meaning x).pendings = ap (λ m. m.pendings) k.0 in
        let old = rw is at within in
        rw (h.2, is) (refl, (omega (arith, p, q, bound, old), omega arith))
    shuts_at (Some x) a b (Ready r) is within h = let k = keeps x h.0 (Ready r) h.1 in rw (h.2, is, k) refl

    pub flat_shuts : (a b : Flat S I) (answer : Poll (Unit {0}))
        → ShutsItem shuts a.running.item a answer b × (waits_left flow meaning a.running ≤ stream_waits flow meaning a.begun)
        → Shuts (flat_meaning flow meaning a) answer (flat_meaning flow meaning b)
    flat_shuts a b answer h = shuts_at a.running.item a b answer refl h.1 h.0
