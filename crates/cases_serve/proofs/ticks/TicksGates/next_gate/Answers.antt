use Rattle.std.proofs.Common.{◌∙◌, ℕ, Option, Some, option_map, ap, refl, sym}
use Rattle.rkt_worker.specs.Gates.{word_in}
use Rattle.cases_serve.proofs.ticks.TicksGates.next_gate.Goals as goal

pub returns-clause-gate : goal.returns-clause-gate
returns-clause-gate c = record {
  last = refl;
  within = λ w is. absurd (cc is);
  grace = refl;
  mercy = refl;
  trip = λ word is.
      let told = c.word_by.ensures word is in (
        ((1, told.0), ap (λ (t : Option ℕ). option_map (λ at. (1, at)) t) told.1, told.2),
        ap (λ (t : Option ℕ). word_in (option_map (λ at. (1, at)) t)) told.1 ∙ ap (λ (n : ℕ). Some n) (sym told.3),
      );
}
