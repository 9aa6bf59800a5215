use Rattle.std.proofs.Common.{rules, ◌∙◌, sym}
use Rattle.std.proofs.lemmas.List.{nil_from_length}
use Rattle.rkt_media.proofs.accept.read.Goals as goal

pub returns-then-is_empty : goal.returns-then-is_empty
returns-then-is_empty c = λ entries h. sym (nil_from_length c.in_ok-entries.entries.items (search rules)) ∙ c.in_ok-entries.ensures entries h
