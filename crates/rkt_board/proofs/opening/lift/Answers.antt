use Rattle.std.proofs.Common.{◌∙◌, refl, sym, arith}
use Rattle.rkt_board.proofs.Keeping.{keeps_lift}
use Rattle.rkt_board.proofs.opening.lift.Goals as goal

pub returns-clause-keeps : goal.returns-clause-keeps
returns-clause-keeps g c = keeps_lift _ _ _ _ _ c.args.log c.args.by c.args.calls c.requires.blank refl refl refl refl refl refl (rw c.requires.blank.none at c.push_reserved.ensures.items) (omega (arith, c.push_reserved.ensures.capacity)) (c.new.ensures ∙ sym c.of.ensures) (rw c.of-2.ensures refl) (rw c.of-3.ensures refl) refl refl c.of-4.ensures (rw c.of-2.ensures c.requires.caused)
