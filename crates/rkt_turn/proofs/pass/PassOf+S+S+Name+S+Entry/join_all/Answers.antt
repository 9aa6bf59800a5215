use Rattle.std.proofs.Common.{rules, ◌≡◌, ◌++◌, ◌∷◌, [], option_to_list, map, sym, ap, ◌∙◌, subst}
use Rattle.std.proofs.lemmas.List.{map-append, nil_from_length}
use Rattle.std.proofs.lemmas.List.Elements.{All-pop}
use Rattle.rkt_turn.specs.Known.{given_back, joined_all, HaveSeen}
use Rattle.rkt_turn.specs.Pass.{known, IsPassOf, IsIdle}
use Rattle.rkt_turn.proofs.Counts.{starts_whole, starts_again, joined_all_last, joined_back, joined_mine, map_twice, seen_last}
use Rattle.rkt_turn.proofs.pass.PassOf+S+S+Name+S+Entry.join_all.Goals as goal

pub loop-pass-preserved : goal.loop-pass-preserved
loop-pass-preserved g c =
    let kept = c.loop-pass.invariant in
    let now = known c.join.new.self in
    let last = known c.in-Some.pass in
    let front = map known c.pop.new.self.items in
    let items : c.loop-pass.passes.items ≡ c.pop.new.self.items ++ c.in-Some.pass ∷ [] = c.pop.ensures.items ∙ ap (λ o. c.pop.new.self.items ++ option_to_list o) c.in-Some.is in
    let parts : map known c.loop-pass.passes.items ≡ front ++ last ∷ [] = ap (map known) items ∙ map-append known c.pop.new.self.items (c.in-Some.pass ∷ []) in (
      search rules,
      search rules,
      ap (λ v. joined_all v front) c.join.ensures.view ∙ (sym (joined_all_last (known c.loop-pass.self) last front) ∙ (ap (joined_all (known c.loop-pass.self)) (sym parts) ∙ kept.2)),
      search rules,
      starts_again now.seen (known c.loop-pass.self).seen (known c.args.self.now).seen c.join.ensures.seen kept.4,
      λ list begins seen. kept.5 list (starts_again list now.seen (known c.loop-pass.self).seen begins c.join.ensures.seen)
          (subst (HaveSeen list) (sym parts) (seen_last list last front seen (starts_again list now.seen last.seen begins c.join.ensures.other_seen))),
      (All-pop (λ p. IsPassOf c.args.turnstile.now p × IsIdle p) c.loop-pass.passes.items c.pop.new.self.items c.pop.result c.pop.ensures.items kept.6).0,
    )

pub returns-clause-others_seen : goal.returns-clause-others_seen
returns-clause-others_seen g c =
    let none : c.loop-pass.passes.items ≡ [] = nil_from_length c.loop-pass.passes.items (search rules) in
    c.loop-pass.invariant.5 (known c.loop-pass.self).seen (starts_whole (known c.loop-pass.self).seen) (subst (λ items. HaveSeen (known c.loop-pass.self).seen (map known items)) (sym none) tt)

pub returns-clause-back : goal.returns-clause-back
returns-clause-back g c =
    let begun = known c.args.self.now in
    let none : c.loop-pass.passes.items ≡ [] = nil_from_length c.loop-pass.passes.items (search rules) in
    let whole : known c.loop-pass.self ≡ joined_all begun (map known c.args.passes.items) = ap (λ items. joined_all (known c.loop-pass.self) (map known items)) (sym none) ∙ c.loop-pass.invariant.2 in
    ap (λ v. v.back) whole ∙ (joined_back begun (map known c.args.passes.items) ∙ ap (λ rs. rs ++ begun.back) (map_twice given_back known c.args.passes.items))

pub returns-clause-mine : goal.returns-clause-mine
returns-clause-mine g c =
    let begun = known c.args.self.now in
    let none : c.loop-pass.passes.items ≡ [] = nil_from_length c.loop-pass.passes.items (search rules) in
    let whole : known c.loop-pass.self ≡ joined_all begun (map known c.args.passes.items) = ap (λ items. joined_all (known c.loop-pass.self) (map known items)) (sym none) ∙ c.loop-pass.invariant.2 in
    ap (λ v. v.mine) whole ∙ joined_mine begun (map known c.args.passes.items)
