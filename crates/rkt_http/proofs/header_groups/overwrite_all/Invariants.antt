use Rattle.std.proofs.Common.{◌≡◌, ◌+◌, ◌≤◌, length}
use Rattle.std.specs.Vec.{vec_len, vec_capacity}
use Rattle.rkt_http.specs.Headers.{overwritten}
use Rattle.rkt_http.proofs.header_groups.overwrite_all.Given as goal

-- what the groups become with those that are left, for which there is room
abbrev pub invariant-loop-other : goal.invariant-loop-other
invariant-loop-other l = record {
  becomes : overwritten l.groups.items l.other-iterator.rest.items ≡ overwritten l.fn.groups.items l.fn.others.items;
  room : vec_len l.groups + length l.other-iterator.rest.items ≤ vec_capacity l.groups;
}
