use Rattle.std.proofs.Common.{◌≡◌, take}
use Rattle.rkt_request.specs.Incoming.{headers_of}
use Rattle.rkt_request.proofs.asked.read_headers.Given as goal

abbrev pub invariant-loop-name : goal.invariant-loop-name
invariant-loop-name l = l.map ≡ headers_of (take l.name-index l.headers)
