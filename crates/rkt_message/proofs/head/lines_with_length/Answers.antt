use Rattle.std.proofs.Common.{rules, ◌≡◌, ◌++◌, ◌∷◌, [], sym, subst, arith, false, map}
use Rattle.std.proofs.lemmas.Grind.{common_steps}
use Rattle.rkt_message.specs.Lines.{is_length, line_of, lines_of, only_length}
use Rattle.rkt_message.proofs.LineLemmas.{other_line}
use Rattle.rkt_message.proofs.head.lines_with_length.Goals as goal

pub loop-name-preserved-in_ok-push : goal.loop-name-preserved-in_ok-push
loop-name-preserved-in_ok-push c =
    let all = only_length c.args.size (lines_of c.args.headers.now) in
    let stepped : c.loop-name.name-iterator ≡ record { name = c.in-Some.name.now; value = c.in-Some.value.now } ∷ c.next.new.self = c.in-Some.ensures.steps in
    let before = subst (λ fields. c.loop-name.lines ++ only_length c.loop-name.size (map line_of fields) ≡ all) stepped c.loop-name.invariant in
    let other : is_length (c.in-Some.name.now, c.in-Some.value.now) ≡ false = first_of (search rules, grind (arith, common_steps)) in
    let pushed : c.push.new.self ≡ c.loop-name.lines ++ (c.in-Some.name.now, c.in-Some.value.now) ∷ [] = first_of (search rules, grind (arith, common_steps)) in
    subst (λ lines. lines ++ only_length c.loop-name.size (map line_of c.next.new.self) ≡ all) (sym pushed)
    (other_line c.loop-name.lines c.loop-name.size c.in-Some.name.now c.in-Some.value.now c.next.new.self all other before)
