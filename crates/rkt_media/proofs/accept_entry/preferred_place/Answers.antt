use Rattle.std.proofs.Common.{ℕ, ◌+◌, sym, subst, ◌∙◌}
use Rattle.std.proofs.lemmas.Bool.{false≢true}
use Rattle.rkt_media.proofs.Ranks.{KeptBest, takes, keeps, preferred_at}
use Rattle.rkt_media.proofs.accept_entry.preferred_place.Goals as goal
use Rattle.rkt_media.proofs.accept_entry.preferred_place.Goals.{then-outranks, else-outranks}

pub loop-at-preserved : goal.loop-at-preserved
loop-at-preserved c =
    let P : ℕ → Type 0 = KeptBest c.args.entries.now (c.loop-at.at + 1) in
    elim c.if-outranks.branch [
      | then-outranks w ↦ subst P (sym w.best-is) (takes _ _ _ _ _ c.loop-at.invariant c.loop-at-test.true c.index-entries-at.is c.index-entries-best.is (c.outranks.ensures.0 w.if-outranks.true))
      | else-outranks w ↦ subst P (sym w.best-is) (keeps _ _ _ _ _ c.loop-at.invariant c.loop-at-test.true c.index-entries-at.is c.index-entries-best.is (λ higher. false≢true (sym w.if-outranks.false ∙ c.outranks.ensures.1 higher)))
    ]

pub returns-clause-best : goal.returns-clause-best
returns-clause-best c = preferred_at _ _ _ c.loop-at.invariant c.loop-at-test.false
