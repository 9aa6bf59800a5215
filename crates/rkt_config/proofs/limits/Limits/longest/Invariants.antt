use Rattle.std.proofs.Common.{map}
use Rattle.std.specs.Prelude.{string_bytes}
use Rattle.std.specs.Char.{to_ascii_lowercase}
use Rattle.rkt_config.specs.Joined.{bytes_of}
use Rattle.rkt_config.proofs.LongestFront.{IsBest}
use Rattle.rkt_config.proofs.limits.Limits.longest.Given as goal

abbrev pub invariant-loop-front : goal.invariant-loop-front
invariant-loop-front l =
    IsBest l.self (map (λ e. (string_bytes e.0.now, e.1.now)) l.yielded) (map to_ascii_lowercase (bytes_of l.name)) l.best
