-- What errors of a launch say.
use Rattle.std.specs.Prelude.{ℕ, List, codes}
use Rattle.rkt_ignition.specs.declared.error.IgniteError.{IgniteError}
use Rattle.rkt_ignition.specs.declared.error.IgniteError.TheVariants.{IgniteLimit, FailedFairings, Config, Collisions, SentinelAborts}
use Rattle.rkt_serve.specs.declared.error.ErrorKindOf.{ErrorKindOf}
use Rattle.rkt_serve.specs.declared.error.ErrorKindOf.TheVariants.{Ignition, Shutdown, NoMemory}

abbrev pub said_of : IgniteError → List ℕ
said_of (IgniteLimit calls) = codes "ignite callback limit"
said_of (FailedFairings infos calls) = codes "launch fairing(s) failed"
said_of (Config bad) = codes "failed to extract configuration"
said_of (Collisions found) = codes "collisions detected"
said_of (SentinelAborts aborted) = codes "sentinel(s) aborted"

-- an ignition that failed as its fault
abbrev pub said : {M L C : Type 0} → ErrorKindOf M L C → List ℕ
said (Ignition fault listener clock) = said_of fault
said (Shutdown launched) = codes "shutdown failed"
said (NoMemory kept) = codes "want of memory"

abbrev pub aborting_of : IgniteError → List ℕ
aborting_of (IgniteLimit calls) = codes "aborting due to ignite callback limit"
aborting_of (FailedFairings infos calls) = codes "aborting due to fairing failure(s)"
aborting_of (Config bad) = codes "aborting due to invalid configuration"
aborting_of (Collisions found) = codes "aborting due to detected routing collisions"
aborting_of (SentinelAborts aborted) = codes "aborting due to sentinel-triggered abort(s)"

-- what whoever launched is told
abbrev pub aborting : {M L C : Type 0} → ErrorKindOf M L C → List ℕ
aborting (Ignition fault listener clock) = aborting_of fault
aborting (Shutdown launched) = codes "aborting due to failed shutdown"
aborting (NoMemory kept) = codes "aborting due to want of memory"
