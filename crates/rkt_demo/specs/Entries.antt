-- The text of a list of entries.
use Rattle.std.specs.Prelude.{◌≡◌, ℕ, ◌+◌, ◌++◌, ◌<◌, List, [], ◌∷◌, Option, Some, None, length, slice_get}
use Rattle.rkt_source.specs.Memory.{SourceInMemory}
use Rattle.rkt_message.specs.declared.piece.Piece.{Piece}
use Rattle.rkt_board.specs.Events.{admitted, end_of}
use Rattle.rkt_link.specs.Memory.{LinkInMemory}
use Rattle.rkt_board.specs.declared.history.End.{End}
use Rattle.rkt_board.specs.declared.history.End.TheVariants.{Answered, Lost, Cut, Failed, Abandoned, Starved}
use Rattle.rkt_board.specs.declared.history.EntryOf.{EntryOf}
use Rattle.rkt_board.specs.declared.history.EventOf.{EventOf}
use Rattle.rkt_demo.specs.Output.{sent_section, lost_section, cut_section, failed_section, abandoned_section, starved_section, last_line}

-- the section of a request that ended so, with what its link holds
abbrev pub ended_section : ℕ → End → List Piece → List ℕ
ended_section k Answered pieces = sent_section k pieces
ended_section k Lost pieces = lost_section k
ended_section k (Cut saw cut) pieces = cut_section k
ended_section k (Failed failure) pieces = failed_section k
ended_section k Abandoned pieces = abandoned_section k
ended_section k Starved pieces = starved_section k

-- the section of an entry, and none where there is none
abbrev pub entry_section : ℕ → Option (EntryOf ℕ SourceInMemory LinkInMemory) → List ℕ
entry_section k None = []
entry_section k (Some entry) = ended_section k entry.end entry.link.io.held

-- the sections of the entries, which are numbered from k on, and the last line
abbrev pub entries_text : ℕ → List (Option (EntryOf ℕ SourceInMemory LinkInMemory)) → List ℕ
entries_text k [] = last_line k
entries_text k (entry ∷ entries) = entry_section k entry ++ entries_text (k + 1) entries

-- these are the entries of a history, by number
pub record AreEntries (events : List (EventOf ℕ SourceInMemory LinkInMemory))
    (entries : List (Option (EntryOf ℕ SourceInMemory LinkInMemory))) : Type 0 where
  pub count : length entries ≡ admitted events
  pub each : (k : ℕ) → k < admitted events → slice_get entries k ≡ Some (end_of k events)
