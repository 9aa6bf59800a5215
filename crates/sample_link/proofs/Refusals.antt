-- A link whose sink has refused says why as the sink does.
use Rattle.rkt_source.specs.Sink.{SinkMeaning, SinkErrs}
use Rattle.rkt_source.specs.declared.sink.SinkError.{SinkError}
use Rattle.rkt_source.specs.declared.sink.SinkError.TheVariants.{SinkFault, NoMemory}
use Rattle.rkt_link.specs.declared.link.SendError.{SendError}
use Rattle.sample_link.specs.GivesUp.{GivesUp}
use Rattle.sample_link.specs.Streaming.{Streaming, SendErrs}

pub refuses_as : {S K : Type 0} (meaning : K → SinkMeaning) (why : SinkError) (answer : SendError) (old new : Streaming S K) (before : SinkMeaning) → GivesUp why answer old new → SinkErrs why before (meaning old.sink) → SendErrs answer before (meaning new.sink)
refuses_as meaning SinkFault answer old new before gives errs = rw (gives.0, gives.1) errs
refuses_as meaning NoMemory answer old new before gives errs = rw gives.0 tt
