use Rattle.std.proofs.Common.{◌≡◌, false}
use Rattle.cases_message.proofs.sending.push_answers.Given as goal

-- the last answer is still to come
abbrev pub invariant-loop : goal.invariant-loop
invariant-loop l = l.pieces.is_over ≡ false
