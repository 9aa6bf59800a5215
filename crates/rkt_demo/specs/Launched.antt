-- What the history of one launch tells of the requests that were offered to it.
use Rattle.std.specs.Prelude.{◌≡◌, ◌<◌, ◌≤◌, ℕ, Bool, true, false, List, Option, Some, length, slice_get}
use Rattle.rkt_source.specs.Memory.{SourceInMemory}
use Rattle.rkt_board.specs.Events.{admitted, end_of}
use Rattle.rkt_link.specs.Memory.{LinkInMemory}
use Rattle.rkt_board.specs.declared.history.End.{End}
use Rattle.rkt_board.specs.declared.history.End.TheVariants.{Answered, Lost, Cut, Failed, Abandoned, Starved}
use Rattle.rkt_board.specs.declared.history.EntryOf.{EntryOf}
use Rattle.rkt_board.specs.declared.history.EventOf.{EventOf}
use Rattle.rkt_demo.specs.Entries.{ended_section}
use Rattle.rkt_demo.specs.Shown.{IsSection, Told}
use Rattle.rkt_script.specs.Words.{Table}
use Rattle.rkt_script.specs.declared.script.ScriptRequest.{ScriptRequest}

-- what is told of a request that was served, where a read of its body may have been refused or not
abbrev pub served_so : Bool → Told
served_so true = Told.Warned
served_so false = Told.Served

-- what is told of what ended so
abbrev pub told_of : Bool → End → Told
told_of warned Answered = served_so warned
told_of warned Lost = served_so warned
told_of warned (Cut saw cut) = Told.CutShort
told_of warned (Failed failure) = served_so warned
told_of warned Abandoned = served_so warned
told_of warned Starved = Told.NoMemory

-- whatever its number is, the section of an entry is one of this request
pub record TellsOf (table : Table) (word : ℕ) (window : Option (ℕ × ℕ)) (request : ScriptRequest)
    (entry : EntryOf ℕ SourceInMemory LinkInMemory) : Type 0 where
  pub warned : Bool
  pub section : (k : ℕ)
      → IsSection (told_of warned entry.end) table word window k request (ended_section k entry.end entry.link.io.held)

-- a history has admitted the first of these requests, in order, and the entry of each tells of it
pub record ServesFront (table : Table) (word : ℕ) (window : Option (ℕ × ℕ)) (requests : List ScriptRequest)
    (events : List (EventOf ℕ SourceInMemory LinkInMemory)) : Type 0 where
  pub within : admitted events ≤ length requests
  pub each : (k : ℕ) (request : ScriptRequest)
      → k < admitted events
      → slice_get requests k ≡ Some request
      → (entry : EntryOf ℕ SourceInMemory LinkInMemory)
      × (end_of k events ≡ Some entry)
      × TellsOf table word window request entry
