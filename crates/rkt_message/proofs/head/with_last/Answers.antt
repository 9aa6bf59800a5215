use Rattle.std.proofs.Common.{◌∙◌, ◌++◌, ◌∷◌, [], ap}
use Rattle.rkt_message.specs.Lines.{Line}
use Rattle.rkt_message.proofs.head.with_last.Goals as goal

pub returns-in_ok-push-in-Some : goal.returns-in_ok-push-in-Some
returns-in_ok-push-in-Some c = rw c.in-Some.is (c.in_ok-push-in-Some.ensures.ok ∙ ap (λ (line : Line). c.args.lines ++ line ∷ []) c.in_ok-length_line-in-Some.ensures)
