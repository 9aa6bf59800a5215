use Rattle.std.proofs.Common.{◌≡◌, drop}
use Rattle.rkt_uri.specs.Host.{port_on}
use Rattle.rkt_uri.proofs.host.port_of_digits.Given as goal

-- the digits that are left decide
abbrev pub invariant-loop-byte : goal.invariant-loop-byte
invariant-loop-byte l = port_on l.port (drop l.byte-index l.digits) ≡ port_on 0 l.digits
