use Rattle.std.specs.List.{flat_map}
use Rattle.rkt_request.specs.Incoming.{AddsCookies, cookie_pieces, empty_jar}
use Rattle.rkt_request.proofs.asked.read_jar.Given as goal

-- the values so far are in the jar
abbrev pub invariant-loop-value : goal.invariant-loop-value
invariant-loop-value l = AddsCookies (flat_map (λ value. cookie_pieces value.now) l.yielded) empty_jar l.jar
