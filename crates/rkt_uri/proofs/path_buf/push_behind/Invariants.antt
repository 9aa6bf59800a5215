use Rattle.std.proofs.Common.{◌≡◌, map, drop, ◌++◌}
use Rattle.rkt_uri.specs.Origin.{led}
use Rattle.rkt_uri.proofs.path_buf.push_behind.Given as goal

-- the names that are left, each behind a slash, complete the text
abbrev pub invariant-loop-name : goal.invariant-loop-name
invariant-loop-name l = l.text ++ led 47 (map (λ name. name.now) (drop l.name-index l.names)) ≡ l.fn.text ++ led 47 (map (λ name. name.now) l.names)
