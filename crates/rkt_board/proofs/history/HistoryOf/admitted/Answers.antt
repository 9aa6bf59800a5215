use Rattle.std.proofs.Common.{◌≡◌, ◌∙◌, ap, sym, subst, if◌then◌else◌, nat_lt, ℕ}
use Rattle.std.specs.List.{count_by}
use Rattle.rkt_board.specs.Events.{admits, admitted}
use Rattle.rkt_board.proofs.Core.{numbered}
use Rattle.rkt_board.proofs.history.HistoryOf.admitted.Goals as goal

pub returns-clause-numbers : goal.returns-clause-numbers
returns-clause-numbers g c ordered k =
    let count = c.count_admits.ensures ∙ ap admitted c.as_slice.ensures in
    subst (λ (n : ℕ). count_by (admits k) c.args.self.now.events ≡ (if nat_lt k n then 1 else 0)) (sym count) (numbered c.args.self.now.events ordered k)
