use Rattle.std.proofs.Common.{◌≡◌, ◌+◌, ◌-◌, ◌^◌, ◌<◌, ◌∙◌, ap, arith, drop, length, min, ℕ, List, []}
use Rattle.std.proofs.lemmas.List.{drop_all}
use Rattle.rkt_http.specs.Headers.{Group, fields_of}
use Rattle.rkt_http.proofs.header_map.HeaderMap.len.Goals as goal

-- a count with nothing left to count
whole : (count left all : ℕ) → left ≡ 0 → count < 2 ^ 64 → min (count + left) (2 ^ 64 - 1) ≡ min all (2 ^ 64 - 1) → count ≡ min all (2 ^ 64 - 1)
whole count left all none fits same = omega arith

pub returns : goal.returns
returns c =
    let at = c.loop-group.group-index in
    let done : drop at c.args.self.now ≡ [] = drop_all at c.args.self.now (omega (arith, ap (λ (gs : List Group). length gs) (c.as_slice-group-items.ensures.value ∙ c.self.view_is))) in
    whole c.loop-group.count (length (fields_of (drop at c.args.self.now))) (length (fields_of c.args.self.now))
    (ap (λ (gs : List Group). length (fields_of gs)) done) c.loop-group.invariant.fits c.loop-group.invariant.so_far
