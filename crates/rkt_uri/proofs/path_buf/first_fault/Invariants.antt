use Rattle.std.proofs.Common.{◌≡◌, drop}
use Rattle.rkt_uri.specs.PathBuf.{fault_in}
use Rattle.rkt_uri.proofs.path_buf.first_fault.Given as goal

-- the segments that are left decide
abbrev pub invariant-loop-segment : goal.invariant-loop-segment
invariant-loop-segment l = fault_in l.dots (drop l.segment-index l.segments) ≡ fault_in l.dots l.segments
