use Rattle.std.proofs.Common.{◌≡◌, ◌+◌, ◌-◌, ◌^◌, ◌<◌, length, min, drop}
use Rattle.rkt_http.specs.Headers.{fields_of}
use Rattle.rkt_http.proofs.header_map.HeaderMap.len.Given as goal

-- the values so far, and those that are left
abbrev pub invariant-loop-group : goal.invariant-loop-group
invariant-loop-group l = record {
  so_far : min (l.count + length (fields_of (drop l.group-index l.self))) (2 ^ 64 - 1) ≡ min (length (fields_of l.self)) (2 ^ 64 - 1);
  fits : l.count < 2 ^ 64;
}
