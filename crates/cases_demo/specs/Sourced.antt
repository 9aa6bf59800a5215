-- What links whose bodies may fail keep, and what they and their listener mean.
use Rattle.std.specs.Prelude.{◌≡◌, ℕ, List, Bool, true, false, IfSome, Option, Some, None, option_map}
use Rattle.std.proofs.Common.{ap, sym}
use Rattle.std.specs.Option.{option_map_or}
use Rattle.rkt_source.specs.Memory.{SourceInMemory}
use Rattle.rkt_link.specs.Asked.{Asked}
use Rattle.rkt_link.specs.Link.{LinkMeaning, IsFreshLink}
use Rattle.rkt_link.specs.Listener.{ListenerMeaning}
use Rattle.rkt_link.specs.Memory.{LinkInMemory, link_meaning, never_fails}

pub record Sourced : Type 0 where
  -- its own source stays with it
  pub link : LinkInMemory
  -- the numbers of the reads that fail
  pub reads : List ℕ
  pub source_taken : Bool

-- the same request, with a body of which these reads fail
abbrev pub asked_with : List ℕ → Asked → Asked
asked_with reads asked = record asked { body_never_faults = never_fails reads }

-- the same link, with a body of which these reads fail
abbrev pub with_reads : List ℕ → Bool → LinkMeaning → LinkMeaning
with_reads reads taken link = record link { asked = option_map (asked_with reads) link.asked; source_taken = taken }

abbrev pub sourced_meaning : Sourced → LinkMeaning
sourced_meaning k = with_reads k.reads k.source_taken (link_meaning k.link)

pub says_so : (link : Sourced) (asked : Asked)
    → (sourced_meaning link).asked ≡ Some asked
    → asked.never_faults ≡ (sourced_meaning link).never_faults
says_so link asked told = ap (λ (o : Option Asked). option_map_or (λ a. a.never_faults) o true) (sym told)

-- the source of the body stands by, untouched, until it is taken
abbrev pub StandsBy : Option SourceInMemory → List ℕ → List ℕ → Type 0
StandsBy source bytes reads =
    IfSome source (λ s. s ≡ record { bytes = bytes; at = 0; chunk = 4; fails = reads; calls = 0; faults = 0 })

-- nothing was taken from it and sent to it
abbrev pub IsUnused : Sourced → Type 0
IsUnused k = IsFreshLink (sourced_meaning k)

pub record Listening : Type 0 where
  pub ended : Bool
  pub faults : ℕ

-- it does not tell what its links ask
abbrev pub listening_meaning : Listening → ListenerMeaning
listening_meaning l = record { given = None; offers = None; ended = l.ended; faults = l.faults; never_faults = false }
