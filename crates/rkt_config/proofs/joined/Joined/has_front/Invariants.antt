use Rattle.std.proofs.Common.{◌≡◌, ◌++◌, map, take}
use Rattle.std.specs.Char.{to_ascii_lowercase}
use Rattle.rkt_config.specs.Joined.{bytes_of}
use Rattle.rkt_config.proofs.joined.Joined.has_front.Given as goal

-- the bytes read so far are those of the name so far
abbrev pub invariant-loop-byte : goal.invariant-loop-byte
invariant-loop-byte l =
    map to_ascii_lowercase (bytes_of l.fn.self) ≡ take l.byte-index l.byte-items ++ map to_ascii_lowercase (bytes_of l.self)
