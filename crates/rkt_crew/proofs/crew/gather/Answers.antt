use Rattle.std.specs.Prelude.{IfSome, Some}
use Rattle.std.proofs.Common.{rules, ◌≡◌, ◌++◌, ◌∷◌, [], option_to_list, map, append_assoc, sym, ap, ◌∙◌}
use Rattle.std.proofs.lemmas.List.{map-append, nil_from_length}
use Rattle.std.proofs.lemmas.List.Elements.{All-nil, All-pop, All-push, All-same}
use Rattle.rkt_crew.specs.Crew.{from_post, HasSeenOf}
use Rattle.rkt_turn.specs.HandsBackLaws.{hands_back_more, hands_back_same}
use Rattle.rkt_turn.specs.Pass.{known, IsPassOf, IsIdle}
use Rattle.rkt_crew.proofs.Crews.{seen_still, starts_again}
use Rattle.rkt_crew.proofs.crew.gather.Goals as goal

pub loop-post-preserved : goal.loop-post-preserved
loop-post-preserved g c =
    let kept = c.loop-post.invariant in
    let post = c.in-Some.post in
    let left = c.pop.new.self.items in
    let back = (known c.loop-post.first).back in
    let took = c.take_back.ensures in
    let items : c.loop-post.posts.items ≡ left ++ post ∷ [] = c.pop.ensures.items ∙ ap (λ o. left ++ option_to_list o) c.in-Some.is in
    let parts : map from_post c.loop-post.posts.items ≡ map from_post left ++ from_post post ∷ [] = ap (map from_post) items ∙ map-append from_post left (post ∷ []) in (
      search rules,
      search rules,
      search rules,
      starts_again _ _ _ took.seen kept.3,
      ap (λ rs. map from_post left ++ rs) took.back ∙ (sym (append_assoc (map from_post left) (from_post post ∷ []) back) ∙ (ap (λ rs. rs ++ back) (sym parts) ∙ kept.4)),
      search rules,
      hands_back_more _ _ _ kept.6 took.handle,
      λ last hands all. kept.7 last (hands_back_more _ _ _ took.handle hands)
          (All-same (HasSeenOf (Some last)) _ _ items (All-push (HasSeenOf (Some last)) left post all (seen_still c.take_back.new.handle last post.handle took.word hands))),
      (All-pop (λ p. IsPassOf c.args.lock.now p.pass × IsIdle p.pass) c.loop-post.posts.items left c.pop.result c.pop.ensures.items kept.8).0,
      (All-pop (λ p. IfSome p.handle (λ theirs. theirs.wire ≡ c.args.handle.now.wire)) c.loop-post.posts.items left c.pop.result c.pop.ensures.items kept.9).0,
    )

pub returns-clause-words : goal.returns-clause-words
returns-clause-words g c =
    let none : c.loop-post.posts.items ≡ [] = nil_from_length c.loop-post.posts.items (search rules) in
    c.loop-post.invariant.7 c.loop-post.handle (hands_back_same c.loop-post.handle) (All-same (HasSeenOf (Some c.loop-post.handle)) c.loop-post.posts.items [] none (All-nil (HasSeenOf (Some c.loop-post.handle))))
