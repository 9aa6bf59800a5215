use Rattle.std.proofs.Common.{rules, arith}
use Rattle.std.proofs.lemmas.Grind.{common_steps}
use Rattle.std.proofs.lemmas.Bool.Decides.{nat_tests}
use Rattle.rkt_board.proofs.Holding.{tells_this}
use Rattle.rkt_board.proofs.Keeping.{keeps_close, keeps_clock, with_clock, may_close, can_close}
use Rattle.rkt_board.proofs.turns.close.Goals.{then-board-via-then-board, then-board-via-else-board+then-board-ne0, then-board-via-else-board+else-board-ne0+then-board-2}
use Rattle.rkt_board.proofs.turns.close.Goals as goal

pub returns-then-board-clause-due : goal.returns-then-board-clause-due
returns-then-board-clause-due g c = elim c.then-board.branch [
  | then-board-via-then-board w ↦ (λ t. absurd (cc t), λ may. absurd (cc (w.if-board.true, (may_close _ _ _ _ c.args.board.now c.requires.keeps may).0)))
  | then-board-via-else-board+then-board-ne0 w ↦ (λ t. absurd (cc t), λ may. let none = (may_close _ _ _ _ c.args.board.now c.requires.keeps may).1 in absurd (grind (arith, common_steps, nat_tests, none, w.if-board-ne0.true)))
  | then-board-via-else-board+else-board-ne0+then-board-2 w ↦ (λ t. absurd (cc t), λ may. let same = (may_close _ _ _ _ c.args.board.now c.requires.keeps may).2 in absurd (grind (arith, common_steps, nat_tests, same, w.if-board-2.true)))
]

pub returns-clause-due : goal.returns-clause-due
returns-clause-due g c = (λ t. can_close _ _ _ _ c.args.board.now c.requires.keeps (search rules) (search rules) (search rules), λ may. search rules)

pub returns-clause-keeps : goal.returns-clause-keeps
returns-clause-keeps g c =
    let after = keeps_clock _ _ _ _ c.args.board.now c.now-moment.new.self c.requires.keeps (tells_this _ _ _ c.now-moment.ensures.rises c.now-moment.ensures.last) in
    keeps_close _ _ _ _ (with_clock c.args.board.now c.now-moment.new.self) c.push_reserved.new.self c.args.by c.now-moment.result after
    (search rules) (search rules) (search rules) (search rules) (search rules) (g.met.P.Served.free.closes _ _ _ _) (search rules) (search rules)
