use Rattle.std.proofs.Common.{◌≡◌, ◌<◌, ℕ, true, get_or}
use Rattle.rkt_grammar.specs.Grammar.{is_token_byte}
use Rattle.rkt_script.proofs.script.split_token.Given as goal

abbrev pub invariant-loop-at : goal.invariant-loop-at
invariant-loop-at l = (k : ℕ) → k < l.at → is_token_byte (get_or l.text k 0) ≡ true
