use Rattle.std.proofs.Common.{ℕ, Option, ap, sym, subst, refl, arith, ◌∙◌}
use Rattle.rkt_link.specs.Clock.{IsWithin}
use Rattle.rkt_board.specs.Records.{events}
use Rattle.rkt_worker.proofs.Cutting.{gate_shown, trips_added}
use Rattle.rkt_worker.specs.Looking.{watched_by}
use Rattle.rkt_source.specs.declared.source.Gate.{Gate}
use Rattle.rkt_worker.proofs.looking.BoardOfLentByGates.next_gate.Goals as goal

pub returns-clause-leads : goal.returns-clause-leads
returns-clause-leads g c = record { name = c.look.ensures.name; adds = trips_added _ _ c.look.ensures.adds; clock = c.look.ensures.clock }

pub returns-clause-gate : goal.returns-clause-gate
returns-clause-gate g c =
    let looked = c.look.ensures in
    let last = looked.last in
    gate_shown (watched_by g.C.Clock.meaning c.look.new.board) _ (events c.look.new.board.log.records.items) refl last
    (subst (λ (w : Option (ℕ × ℕ)). IsWithin w c.look.result.moment) (sym looked.clock.window) looked.moment.within)
    (ap (λ (x : Gate). x.grace) looked.gate ∙ sym (ap (λ n. n.served.grace) looked.name))
    (ap (λ (x : Gate). x.mercy) looked.gate ∙ sym (ap (λ n. n.served.mercy) looked.name)) (omega (arith, looked.keeps.holds.latest_by, last)) looked.word
