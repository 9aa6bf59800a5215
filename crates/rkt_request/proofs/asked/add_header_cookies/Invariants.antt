use Rattle.std.proofs.Common.{map}
use Rattle.std.specs.Str.{trim}
use Rattle.rkt_request.specs.Incoming.{AddsCookies}
use Rattle.rkt_request.proofs.asked.add_header_cookies.Given as goal

abbrev pub invariant-loop-piece : goal.invariant-loop-piece
invariant-loop-piece l = AddsCookies (map (λ piece. trim piece.now) l.yielded) l.initial.jar l.jar
