use Rattle.std.proofs.Common.{◌≡◌, string_bytes}
use Rattle.rkt_uri.specs.Origin.{led}
use Rattle.rkt_uri.proofs.Pieces.{kept_by}
use Rattle.rkt_uri.proofs.origin.push_led.Given as goal

-- the pieces so far, each behind a separator
abbrev pub invariant-loop-piece : goal.invariant-loop-piece
invariant-loop-piece l = string_bytes l.out ≡ led l.separator (kept_by (λ piece. piece) l.yielded)
