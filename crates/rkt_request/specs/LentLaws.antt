-- That growing goes on.
use Rattle.std.specs.Prelude.{◌≡◌, ◌<◌, ◌++◌, []}
use Rattle.std.proofs.Common.{sym, ap, ◌∙◌, subst, inr, ⊎_elim, append_assoc}
use Rattle.std.proofs.Math.Nat.{le_refl, le_trans}
use Rattle.std.proofs.lemmas.List.{append-nil}
use Rattle.rkt_request.specs.Lent.{Kept, Lent, Grows, MayGrow}

-- what did not change has grown by nothing
pub grows_same : {C : Type 0} (before after : Kept C) → after ≡ before → Grows before after
grows_same before after same = record {
  originals = ap (λ kept. kept.jar.originals) same;
  floor = ap (λ kept. kept.jar.floor) same;
  log = ([], ap (λ kept. kept.jar.log) same ∙ sym (append-nil before.jar.log));
  cache = ([], ap (λ kept. kept.cache) same ∙ sym (append-nil before.cache));
  shutdown = record {
    wire = ap (λ kept. kept.shutdown.wire) same;
    looked = rw (ap (λ kept. kept.shutdown.looked) same) (le_refl before.shutdown.looked);
    seen = λ was. ap (λ kept. kept.shutdown.seen) same;
  };
}

-- what has grown, and grows again, has grown
pub grows_again : {C : Type 0} (a b c : Kept C) → Grows a b → Grows b c → Grows a c
grows_again a b c p q = record {
  originals = q.originals ∙ p.originals;
  floor = q.floor ∙ p.floor;
  log = (p.log.0 ++ q.log.0, q.log.1 ∙ (ap (λ l. l ++ q.log.0) p.log.1 ∙ append_assoc a.jar.log p.log.0 q.log.0));
  cache = (p.cache.0 ++ q.cache.0, q.cache.1 ∙ (ap (λ l. l ++ q.cache.0) p.cache.1 ∙ append_assoc a.cache p.cache.0 q.cache.0));
  shutdown = record {
    wire = q.shutdown.wire ∙ p.shutdown.wire;
    looked = le_trans p.shutdown.looked q.shutdown.looked;
    seen = λ was. q.shutdown.seen (subst (λ n. 0 < n) (sym (p.shutdown.seen was)) was) ∙ p.shutdown.seen was;
  };
}

pub may_grow_again : {C : Type 0} (a b c : Lent C) → MayGrow a b → MayGrow b c → MayGrow a c
may_grow_again a b c p q =
    ⊎_elim (λ (same : c ≡ b). subst (MayGrow a) (sym same) p)
    (λ (more : Grows b.kept c.kept × (c.gate ≡ b.gate)).
    ⊎_elim (λ (first : b ≡ a). inr (subst (λ x. Grows x.kept c.kept × (c.gate ≡ x.gate)) first more))
    (λ (before : Grows a.kept b.kept × (b.gate ≡ a.gate)).
    inr (grows_again a.kept b.kept c.kept before.0 more.0, more.1 ∙ before.1)) p) q
