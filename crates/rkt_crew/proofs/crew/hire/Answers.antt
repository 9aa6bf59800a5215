use Rattle.std.specs.Prelude.{None, Some}
use Rattle.std.proofs.Common.{rules, arith, ◌≡◌, ◌≤◌, ◌<◌, ◌+◌, ℕ, vec_len, sym, refl, ap, ◌∙◌, subst}
use Rattle.std.proofs.lemmas.List.Elements.{All-push, All-same}
use Rattle.rkt_crew.specs.Crew.{IsMade, IsPostNumber}
use Rattle.rkt_turn.specs.Known.{last_number}
use Rattle.rkt_turn.specs.Pass.{known}
use Rattle.rkt_crew.specs.declared.post.Post.{Post}
use Rattle.rkt_crew.proofs.Crews.{post_number, drew_some, drew_most}
use Rattle.rkt_crew.proofs.crew.hire.Goals as goal

pub loop-posts-preserved : goal.loop-posts-preserved
loop-posts-preserved g c =
    let kept = c.loop-posts.invariant in
    let begun = known c.args.first.now in
    let drawn = c.split-pass.ensures in
    let Made : Post g.row.S.Denot g.row.W.Denot g.row.R.Denot g.row.S-Name.Denot g.row.S-Entry.Denot → Type 0 = IsMade c.args.lock.now c.args.handle.now c.args.count begun in
    let post : Post g.row.S.Denot g.row.W.Denot g.row.R.Denot g.row.S-Name.Denot g.row.S-Entry.Denot = record { rt = c.args.rt; lock = c.args.lock; pass = c.split-pass.result; handle = Some c.in-Ok.handle; moment = 0; trip = None } in
    let n : ℕ = vec_len c.loop-posts.posts in
    let m : ℕ = vec_len c.push_reserved.new.self in
    let next : ℕ = (known c.loop-posts.first).next in
    let now : ℕ = (known c.split-pass.new.self).next in
    let less : n < c.args.count = search rules in
    let len : m ≡ n + 1 = omega (arith, c.push_reserved.ensures.len, c.reserve.ensures.len) in
    let before : next ≤ 1 + n = kept.9 in
    let more : now ≤ next + 1 = subst (λ (k : ℕ). k ≤ next + 1) (sym (ap (λ v. v.next) drawn.view)) (drew_most (known c.loop-posts.first)) in
    let most : now ≤ 1 + m = omega arith in (
      search rules,
      ap (λ v. v.name) drawn.view ∙ kept.1,
      ap (λ v. v.mine) drawn.view ∙ kept.2,
      ap (λ v. v.seen) drawn.view ∙ kept.3,
      ap (λ v. v.back) drawn.view ∙ kept.4,
      search rules,
      c.split.ensures.same ∙ kept.6,
      All-same Made _ _ c.push_reserved.ensures.items
          (All-push Made c.reserve.new.self.items post (All-same Made _ _ c.reserve.ensures.items kept.7) (record {
            lock_is = refl;
            new = (drawn.own.1 ∙ kept.0.0, (ap (λ v. v.turn) drawn.another, ap (λ v. v.opened) drawn.another ∙ kept.0.2.1), ap (λ v. v.mine) drawn.another);
            name = ap (λ v. v.name) drawn.another ∙ kept.1;
            seen = ap (λ v. v.seen) drawn.another ∙ kept.3;
            handle_is = ap (λ h. Some h) (c.in-Ok.ensures.copy ∙ kept.6);
            moment = refl;
            trip = refl;
            number = subst (IsPostNumber c.args.count) (sym (ap (λ v. v.number) drawn.another)) (post_number c.args.count n next kept.8 before less);
            small = subst (λ (k : ℕ). k < last_number) (sym (ap (λ v. v.number) drawn.another)) (let x : ℕ = c.args.count in let f : x < last_number = c.requires.few in let q : next < last_number = omega (arith, before, less, f) in q);
          })),
      subst (λ (k : ℕ). 0 < k) (sym (ap (λ v. v.next) drawn.view)) (drew_some (known c.loop-posts.first)),
      most,
      search rules,
    )
