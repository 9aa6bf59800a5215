use Rattle.std.proofs.Common.{rules, arith, ◌≡◌, ◌++◌, ◌∷◌, [], ℕ, suc, map, vec_len, sym, ap, ◌∙◌}
use Rattle.std.proofs.lemmas.List.{map-append}
use Rattle.std.proofs.lemmas.List.Elements.{All-push, All-same}
use Rattle.rkt_turn.specs.Known.{drew, drawn, another, split_off}
use Rattle.rkt_turn.specs.Pass.{known, IsNew}
use Rattle.rkt_turn.proofs.Counts.{map_twice, drawn_name, drawn_next, split_numbers}
use Rattle.rkt_turn.proofs.pass.PassOf+S+S+Name+S+Entry.split_all.Goals as goal

pub loop-passes-preserved : goal.loop-passes-preserved
loop-passes-preserved g c =
    let kept = c.loop-passes.invariant in
    let begun = known c.args.self.now in
    let n : ℕ = vec_len c.loop-passes.passes in
    let len : vec_len c.push_reserved.new.self ≡ suc n = omega (arith, c.push_reserved.ensures.len) in
    let view = c.split.ensures.another in
    let next : known c.split.result ≡ another (drawn n begun) = view ∙ ap another kept.2 in
    let new : IsNew c.args.turnstile.now c.split.result = (c.split.ensures.own.1 ∙ kept.0.0, (ap (λ v. v.turn) view, ap (λ v. v.opened) view ∙ kept.0.2.1), ap (λ v. v.mine) view) in (
      search rules,
      search rules,
      c.split.ensures.view ∙ (ap drew kept.2 ∙ ap (λ k. drawn k begun) (sym len)),
      ap (map known) c.push_reserved.ensures.items ∙ (map-append known c.loop-passes.passes.items (c.split.result ∷ []) ∙ ((λ i. kept.3 i ++ next i ∷ []) ∙ ap (λ k. split_off k begun) (sym len))),
      All-same (IsNew c.args.turnstile.now) _ _ c.push_reserved.ensures.items (All-push (IsNew c.args.turnstile.now) c.loop-passes.passes.items c.split.result kept.4 new),
      All-same (λ p. (known p).name ≡ begun.name) _ _ c.push_reserved.ensures.items (All-push (λ p. (known p).name ≡ begun.name) c.loop-passes.passes.items c.split.result kept.5 (ap (λ v. v.name) next ∙ drawn_name n begun)),
      search rules,
      ap (λ v. v.mine) c.split.ensures.view ∙ kept.7,
      search rules,
      search rules,
    )

pub returns-clause-numbers : goal.returns-clause-numbers
returns-clause-numbers g c room =
    let kept = c.loop-passes.invariant in
    let begun = known c.args.self.now in
    let all : vec_len c.loop-passes.passes ≡ c.args.count = search rules in
    sym (map_twice (λ v. v.number) known c.loop-passes.passes.items)
    ∙ (ap (map (λ v. v.number)) (kept.3 ∙ ap (λ k. split_off k begun) all) ∙ split_numbers c.args.count begun room)

pub returns-clause-next : goal.returns-clause-next
returns-clause-next g c room =
    let kept = c.loop-passes.invariant in
    let begun = known c.args.self.now in
    let all : vec_len c.loop-passes.passes ≡ c.args.count = search rules in
    ap (λ v. v.next) (kept.2 ∙ ap (λ k. drawn k begun) all) ∙ drawn_next c.args.count begun room
