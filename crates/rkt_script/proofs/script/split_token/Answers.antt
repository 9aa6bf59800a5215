use Rattle.std.proofs.Common.{◌≡◌, ◌∙◌, length, arith, rules, sym}
use Rattle.std.proofs.Math.Seq.{take-length}
use Rattle.rkt_script.proofs.Headers.{next_token, token_run}
use Rattle.rkt_script.proofs.script.split_token.Goals as goal

pub returns-then-not-is_token_byte-clause-token : goal.returns-then-not-is_token_byte-clause-token
returns-then-not-is_token_byte-clause-token c =
    c.split_at.ensures.front ∙ token_run c.args.text.now c.loop-at.at (omega arith) c.loop-at.invariant (λ within. search rules)

pub loop-at-preserved : goal.loop-at-preserved
loop-at-preserved c = next_token c.args.text.now c.loop-at.at c.loop-at.invariant (search rules)

pub returns-clause-token : goal.returns-clause-token
returns-clause-token c =
    let all : c.loop-at.at ≡ length c.args.text.now = omega arith in
    sym (take-length c.args.text.now) ∙ token_run c.args.text.now (length c.args.text.now) (omega arith) (λ k within. c.loop-at.invariant k (omega (arith, all, within))) (λ within. absurd (omega (arith, within)))
