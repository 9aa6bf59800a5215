use Rattle.std.proofs.Common.{◌≡◌, ◌+◌, length, drop}
use Rattle.rkt_media.specs.Runs.{run}
use Rattle.rkt_media.specs.ByteClass.{is_of}
use Rattle.rkt_media.proofs.byte_run.run_len.Given as goal

-- the bytes so far are of the run
abbrev pub invariant-loop-at : goal.invariant-loop-at
invariant-loop-at l = length (run (is_of l.class) l.bytes) ≡ l.at + length (run (is_of l.class) (drop l.at l.bytes))
