use Rattle.std.proofs.Common.{◌∙◌, sym}
use Rattle.rkt_shield.specs.Shield.{comes_before}
use Rattle.rkt_shield.proofs.Places.{at_place, at_end}
use Rattle.rkt_shield.proofs.by_name.place_for.Goals as goal

pub returns-in-Some : goal.returns-in-Some
returns-in-Some c = at_place (λ header. comes_before c.args.name.now header.name) c.args.headers.now c.in-Some.place (sym c.first_behind.ensures ∙ c.in-Some.is)

pub returns-in-None : goal.returns-in-None
returns-in-None c = at_end (λ header. comes_before c.args.name.now header.name) c.args.headers.now (sym c.first_behind.ensures ∙ c.in-None.is)
