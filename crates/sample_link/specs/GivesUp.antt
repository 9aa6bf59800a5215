-- What becomes of a link whose sink has refused.
use Rattle.std.specs.Prelude.{◌≡◌, []}
use Rattle.rkt_source.specs.Memory.{counted}
use Rattle.rkt_source.specs.declared.sink.SinkError.{SinkError}
use Rattle.rkt_source.specs.declared.sink.SinkError.TheVariants as sink_error
use Rattle.rkt_link.specs.declared.link.SendError.{SendError}
use Rattle.rkt_link.specs.declared.link.SendError.TheVariants.{Fault, NoMemory}
use Rattle.sample_link.specs.Streaming.{Streaming}

-- the rest of the piece is let go, and a fault is counted
abbrev pub GivesUp : {S K : Type 0} → SinkError → SendError → Streaming S K → Streaming S K → Type 0
GivesUp sink_error.SinkFault error old new = (error ≡ Fault) × (new ≡ record old { left = []; faults = counted old.faults })
GivesUp sink_error.NoMemory error old new = (error ≡ NoMemory) × (new ≡ record old { left = [] })
