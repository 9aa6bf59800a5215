use Rattle.std.proofs.Common.{refl, sym, arith, ◌∙◌, get_or}
use Rattle.std.proofs.lemmas.Bool.{false≢true}
use Rattle.rkt_grammar.proofs.Faults.{follows_more, leaves, leaves_at_end, follows_all, at_some, at_none}
use Rattle.rkt_grammar.proofs.grammar.first_fault_in.Goals as goal

pub returns-in-None-clause-some : goal.returns-in-None-clause-some
returns-in-None-clause-some g c =
    leaves (g.P.Place.rest_of c.args.start) (g.P.Place.rest_of c.loop-at.place) _ _ (get_or c.args.text.now c.loop-at.at 0) c.loop-at-test.true refl c.loop-at.invariant (g.met.P.Place.leads_on _)
    (λ rest. at_none _ _ _ (sym c.after.ensures ∙ c.in-None.is) (g.met.P.Place.goes_on c.loop-at.place (get_or c.args.text.now c.loop-at.at 0) rest))

pub loop-at-preserved : goal.loop-at-preserved
loop-at-preserved g c =
    follows_more (g.P.Place.rest_of c.args.start) (g.P.Place.rest_of c.loop-at.place) (g.P.Place.rest_of c.in-Some.next) _ _ (get_or c.args.text.now c.loop-at.at 0) c.loop-at-test.true refl c.loop-at.invariant
    (λ rest. at_some _ _ _ _ (sym c.after.ensures ∙ c.in-Some.is) (g.met.P.Place.goes_on c.loop-at.place (get_or c.args.text.now c.loop-at.at 0) rest))

pub returns-else-can_end-clause-some : goal.returns-else-can_end-clause-some
returns-else-can_end-clause-some g c =
    leaves_at_end (g.P.Place.rest_of c.args.start) (g.P.Place.rest_of c.loop-at.place) c.args.text.now (follows_all (g.P.Place.rest_of c.args.start) (g.P.Place.rest_of c.loop-at.place) c.args.text.now c.loop-at.at (omega arith) c.loop-at.invariant) (g.met.P.Place.leads_on _)
    (λ empty. false≢true (sym (sym c.can_end.ensures ∙ c.if-can_end.false) ∙ (g.met.P.Place.ends c.loop-at.place).1 empty))
