-- How an exchange ended. C is the type of cached values, S that of streams, and W that of handles.
use Rattle.rkt_message.specs.Response.{ResponseOf}
use Rattle.rkt_exchange.specs.declared.ended.EndedOf.{EndedOf}
use Rattle.rkt_exchange.specs.declared.ended.EndedOf.TheVariants.{Finished, Starved}
use Rattle.rkt_exchange.specs.declared.ended.RunOf.{RunOf}

-- a fact of the run and the response, where there are any
abbrev pub IfFinished : {C S W : Type 0} → EndedOf C S W → (RunOf C → ResponseOf S → Type 0) → Type 0
IfFinished (Finished run response handle) P = P run response
IfFinished (Starved handle) P = Unit {0}

-- the handle that it hands back
abbrev pub handle_of : {C S W : Type 0} → EndedOf C S W → W
handle_of (Finished run response handle) = handle
handle_of (Starved handle) = handle
