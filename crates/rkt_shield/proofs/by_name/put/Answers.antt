use Rattle.std.proofs.Common.{◌∙◌, subst, ◌≤◌, ℕ, length}
use Rattle.rkt_shield.specs.Shield.{comes_before}
use Rattle.rkt_shield.proofs.ByName.{put_gives}
use Rattle.rkt_shield.proofs.Places.{within}
use Rattle.rkt_shield.proofs.by_name.put.Goals as goal

pub insert-requires : goal.insert-requires
insert-requires c =
    let place : c.place_for-place.result ≤ length c.as_slice.result.now = rw c.place_for-place.ensures (within (λ header. comes_before c.as_str-2.result.now header.name) c.as_slice.result.now) in
    let P : ℕ → Type 0 = λ n. c.place_for-place.result ≤ n in
    subst P c.as_slice.ensures.len place

pub returns-clause-ok : goal.returns-clause-ok
returns-clause-ok c =
    (put_gives c.args.header c.args.headers.now.items c.remove.new.headers.items c.as_slice.result.now c.insert.new.self.items c.as_str.result.now c.as_str-2.result.now c.place_for-place.result
    c.requires c.remove.ensures.others (c.as_str.ensures ∙ c.name.ensures) c.as_slice.ensures.value c.place_for-place.ensures (c.as_str-2.ensures ∙ c.name-2.ensures) c.in_ok-insert.ensures.items).0

pub returns-clause-by_name : goal.returns-clause-by_name
returns-clause-by_name c =
    (put_gives c.args.header c.args.headers.now.items c.remove.new.headers.items c.as_slice.result.now c.insert.new.self.items c.as_str.result.now c.as_str-2.result.now c.place_for-place.result
    c.requires c.remove.ensures.others (c.as_str.ensures ∙ c.name.ensures) c.as_slice.ensures.value c.place_for-place.ensures (c.as_str-2.ensures ∙ c.name-2.ensures) c.in_ok-insert.ensures.items).1
