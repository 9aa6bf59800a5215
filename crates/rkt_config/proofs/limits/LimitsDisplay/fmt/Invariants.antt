use Rattle.std.proofs.Common.{◌≡◌, ℕ, List, ◌++◌, map, string_bytes, flat_map, codes}
use Rattle.std.specs.Fmt.{HasWritten, IsPlainFormatter}
use Rattle.rkt_config.specs.Limits.{limit_text, limits_text}
use Rattle.rkt_config.proofs.limits.LimitsDisplay.fmt.Given as goal

abbrev pub invariant-loop-name : goal.invariant-loop-name
invariant-loop-name g l =
    IsPlainFormatter l.fn.f
    → (done : List ℕ) × HasWritten g.W.Write.write_str_gives l.fn.f done l.f
    × (done ++ flat_map (λ e. codes ", " ++ limit_text e) (map (λ e. (string_bytes e.0, e.1)) l.name-iterator) ≡ limits_text l.fn.self)
