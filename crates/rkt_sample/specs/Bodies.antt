-- The bodies of requests, and what is read of them. S is the type of their sources.
use Rattle.std.specs.Prelude.{◌&&◌, ℕ, List, Option, Some, None, IfSome, IsTrue, length, nat_le, codes, if◌then◌else◌}
use Rattle.std.specs.Map.{lookup}
use Rattle.std.specs.Option.{option_map_or}
use Rattle.std.specs.Str.{bytes_eq, is_utf8}
use Rattle.rkt_source.specs.Cancel.{Cancellable, cut_meaning}
use Rattle.rkt_data.specs.Body.{Body}
use Rattle.rkt_data.specs.CountedSource.{body}
use Rattle.rkt_data.specs.declared.data_stream.ByteUnit.{ByteUnit}
use Rattle.rkt_router.specs.Calls.{GateRule}
use Rattle.rkt_source.specs.Source.{Meaning}
use Rattle.rkt_source.specs.declared.source.Gate.{Gate}
use Rattle.rkt_sample.specs.Calm.{KeepsOpen, StillOpen}

-- the body of a request, whose source may be cut off
abbrev pub SampleBody : Type 0 → Type 0
SampleBody S = Body (Cancellable S)

-- what its source means
abbrev pub meaning_of : {S : Type 0} → (S → Meaning) → Cancellable S → Meaning
meaning_of meaning source = cut_meaning source.stage (meaning source.io)

-- all bytes of a body, where its source tells them
abbrev pub whole : {S : Type 0} → (S → Meaning) → SampleBody S → Option (List ℕ)
whole meaning b = body (meaning_of meaning) b.held b.tap

-- a source never fails, and calls under Gates of a rule may have led its machine to where it is, none of which was refused
pub record IsUncut {S : Type 0} (meaning : S → Meaning) (rule : GateRule) (source : Cancellable S) : Type 0 where
  pub never_faults : IsTrue (meaning source.io).never_faults
  pub stage : StillOpen rule source.stage

-- so it is with the source of a body, where it has one
abbrev pub IsUncutBody : {S : Type 0} → (S → Meaning) → GateRule → SampleBody S → Type 0
IsUncutBody meaning rule b = IfSome b.tap (λ t. IsUncut meaning rule t.now)

-- no read of a body is refused under these Gates: its source never fails, and is not cut off
pub record ReadsAll {S : Type 0} (meaning : S → Meaning) (b : SampleBody S) (gates : List Gate) : Type 0 where
  pub never_faults : IfSome b.tap (λ t. IsTrue (meaning t.now.io).never_faults)
  pub stays_open : IfSome b.tap (λ t. KeepsOpen gates t.now.stage)

-- the most bytes that a text may have
abbrev pub string_limit : List (List ℕ × ByteUnit) → ℕ
string_limit limits = option_map_or (λ unit. unit.0) (lookup (bytes_eq (codes "string")) limits) 8192

-- the text that a body is, where it is one of at most this length
abbrev pub text_in : ℕ → Option (List ℕ) → Option (List ℕ)
text_in limit None = None
text_in limit (Some bytes) = if nat_le (length bytes) limit && is_utf8 bytes then Some bytes else None
