-- The read that a chunk comes of.
use Rattle.std.proofs.Common.{◌≡◌, ℕ, Err}
use Rattle.rkt_source.specs.Source.{Polled}
use Rattle.rkt_base.specs.declared.poll.Poll.TheVariants.{Ready}
use Rattle.rkt_data.specs.Ext.{AsksForError}
use Rattle.rkt_data.specs.Gathering.{cause_of, data_error_of}
use Rattle.rkt_data.specs.declared.error.DataError.{DataError}
use Rattle.rkt_source.specs.declared.source.Gate.{Gate}
use Rattle.rkt_source.specs.declared.source.SourceError.{SourceError}
use Rattle.rkt_source.specs.declared.source.SourceError.TheVariants.{SourceFault, Gone, TimedOut}

-- the source has answered the error
pub caused : {R : Type 0} (polled : Polled R) (gate : Gate) (room : ℕ) (e : SourceError) (d : DataError) (s t : R) → d ≡ data_error_of e → polled s gate room (Ready (Err e)) t → AsksForError polled gate room s (cause_of d) t
caused polled gate room SourceFault d s t is h = rw is h
caused polled gate room Gone d s t is h = rw is h
caused polled gate room TimedOut d s t is h = rw is h
