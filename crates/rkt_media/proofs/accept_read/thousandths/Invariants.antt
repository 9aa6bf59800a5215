use Rattle.std.proofs.Common.{◌≡◌, ◌≤◌, ◌+◌, ◌*◌, drop, filter}
use Rattle.std.specs.Char.{is_ascii_digit}
use Rattle.rkt_media.specs.Accept.{weight_of, thousandths}
use Rattle.rkt_media.proofs.accept_read.thousandths.Given as goal

-- the digits that are left complete the weight, which fits
abbrev pub invariant-loop-byte : goal.invariant-loop-byte
invariant-loop-byte l = (l.sum + 10 * l.unit ≤ 10000) × (l.sum + thousandths l.unit (filter is_ascii_digit (drop l.byte-index l.bytes)) ≡ weight_of l.bytes)
