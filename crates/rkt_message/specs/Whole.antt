-- What a state holds that gathers all that is left of a body, and what it answers.
use Rattle.std.specs.Option.{ForSome}
use Rattle.std.specs.Prelude.{◌≡◌, ⊤, ℕ, ◌+◌, ◌++◌, Bool, true, false, IsUtf8, List, [], length, Option, None, Some, option_map, Result, Ok, Err, String, string_bytes, Vec}
use Rattle.std.specs.Str.Lossy.{utf8_valid_len}
use Rattle.std.specs.declared.alloc.Global.{Global}
use Rattle.rkt_base.specs.declared.poll.Poll.{Poll}
use Rattle.rkt_base.specs.declared.poll.Poll.TheVariants.{Ready, Pending}
use Rattle.rkt_source.specs.Source.{Meaning, Polled}
use Rattle.rkt_data.specs.Gathering.{Causes, cause_of}
use Rattle.rkt_data.specs.CountedSource.{Ending, ended, gave}
use Rattle.rkt_data.specs.declared.error.DataError.{DataError}
use Rattle.rkt_data.specs.declared.error.DataError.TheVariants as error
use Rattle.rkt_source.specs.declared.source.Gate.{Gate}
use Rattle.rkt_message.specs.Body.{BodyOf, left_of, lowered, preset_of}
use Rattle.rkt_message.specs.Reading.{ByGate, Follows, StreamErrs, StreamWaits, Moves}
use Rattle.rkt_message.specs.declared.content.Content.{Content}
use Rattle.rkt_message.specs.declared.drain.Stop.{Stop}
use Rattle.rkt_message.specs.declared.drain.Stop.TheVariants as stop

pub record Gathering (S : Type 0) : Type 0 where
  pub body : BodyOf S
  -- the bytes read since the state was made
  pub got : List ℕ
  pub failed : Option DataError
  pub done : Bool

-- a state that has read nothing yet
abbrev pub gathering_of : {S : Type 0} → BodyOf S → Gathering S
gathering_of body = record { body = body; got = []; failed = None; done = false }

-- what was read, and all that is left, where a source tells that
abbrev pub all_of : {S : Type 0} → (S → Meaning) → List ℕ → Content S → Option (List ℕ)
all_of meaning got content = option_map (λ left. got ++ left) (left_of meaning content)

-- as many bytes were read of the body as there are more
abbrev pub MovesBy : {S : Type 0} → (S → Meaning) → Content S → Content S → List ℕ → List ℕ → Type 0
MovesBy meaning c d old new = (count : ℕ) × (length new ≡ length old + count) × Moves meaning c d count

-- several reads under one Gate that have ended so, by which the bytes read became more
pub record Draws {S : Type 0} (meaning : S → Meaning) (polled : Polled S) (gate : Gate) (how : Ending) (b c : BodyOf S)
    (old new : List ℕ) : Type 0 where
  pub follows : Follows meaning gate.tripped b c
  pub preset : preset_of c.content ≡ preset_of b.content
  pub by_gate : ByGate polled gate how b.content c.content
  pub all : all_of meaning new c.content ≡ all_of meaning old b.content
  pub moves : MovesBy meaning b.content c.content old new

-- when each error may come
abbrev pub BytesErr : {S : Type 0} → (S → Meaning) → Content S → Content S → DataError → Type 0
BytesErr meaning c d e = Causes (λ cause. StreamErrs meaning cause c d) ⊥ (λ valid_up_to. ⊥) ⊤ e

-- why reading ended: nothing is left, an error, or a source that was Pending
abbrev pub Stops : {S : Type 0} → (S → Meaning) → Content S → Content S → Stop → Type 0
Stops meaning c d stop.End = ForSome (left_of meaning d) (λ left. left ≡ [])
Stops meaning c d (stop.Failed e) = BytesErr meaning c d e
Stops meaning c d stop.Waiting = StreamWaits meaning c d

-- how the reads have ended then
abbrev pub stop_end : Stop → Ending
stop_end stop.End = ended
stop_end (stop.Failed e) = Ready (cause_of e)
stop_end stop.Waiting = Pending

-- or went on
abbrev pub end_if_stopped : Option Stop → Ending
end_if_stopped None = gave
end_if_stopped (Some why) = stop_end why

-- what a poll answers that gathers bytes: all of them
abbrev pub GathersBytes : {S : Type 0} → (S → Meaning) → Gathering S → Gathering S → Poll (Result (Vec ℕ Global) DataError)
    → Type 0
GathersBytes meaning a b Pending =
    (b.failed ≡ None)
    × (b.done ≡ false)
    × StreamWaits meaning a.body.content b.body.content
    × (all_of meaning b.got b.body.content ≡ all_of meaning a.got a.body.content)
    × MovesBy meaning a.body.content b.body.content a.got b.got
GathersBytes meaning a b (Ready (Err e)) =
    (b.failed ≡ Some e)
    × (b.done ≡ false)
    × BytesErr meaning a.body.content b.body.content e
    × ((count : ℕ) × Moves meaning a.body.content b.body.content count)
GathersBytes meaning a b (Ready (Ok v)) =
    (b.done ≡ true)
    × ForSome (all_of meaning a.got a.body.content) (λ w. (v.items ≡ w) × (left_of meaning b.body.content ≡ Some []))
    × MovesBy meaning a.body.content b.body.content a.got v.items

-- the preset size after such a poll: once all was read, what was read is taken from it
abbrev pub LowersBytes : {S : Type 0} → Content S → Content S → Poll (Result (Vec ℕ Global) DataError) → Type 0
LowersBytes c d Pending = preset_of d ≡ preset_of c
LowersBytes c d (Ready (Err e)) = preset_of d ≡ preset_of c
LowersBytes c d (Ready (Ok v)) = preset_of d ≡ lowered c (length v.items)

-- when a reading of text may fail with each error: NotUtf8 where all was read and is no UTF-8
abbrev pub TextErr : {S : Type 0} → (S → Meaning) → Gathering S → Gathering S → DataError → Type 0
TextErr meaning a b e =
    Causes (λ cause. StreamErrs meaning cause a.body.content b.body.content) ⊥
    (λ valid_up_to. ForSome (all_of meaning a.got a.body.content) (λ w.
    (valid_up_to ≡ utf8_valid_len w) × (IsUtf8 w → ⊥) × (left_of meaning b.body.content ≡ Some []))) ⊤ e

-- what a poll answers that gathers text: all bytes, which are UTF-8
abbrev pub GathersText : {S : Type 0} → (S → Meaning) → Gathering S → Gathering S → Poll (Result (String Global) DataError)
    → Type 0
GathersText meaning a b Pending =
    (b.failed ≡ None)
    × (b.done ≡ false)
    × StreamWaits meaning a.body.content b.body.content
    × (all_of meaning b.got b.body.content ≡ all_of meaning a.got a.body.content)
    × MovesBy meaning a.body.content b.body.content a.got b.got
GathersText meaning a b (Ready (Err e)) =
    (b.failed ≡ Some e)
    × (b.done ≡ false)
    × TextErr meaning a b e
    × ((count : ℕ) × Moves meaning a.body.content b.body.content count)
GathersText meaning a b (Ready (Ok t)) =
    (b.done ≡ true)
    × ForSome (all_of meaning a.got a.body.content) (λ w. (string_bytes t ≡ w) × (left_of meaning b.body.content ≡ Some []))
    × MovesBy meaning a.body.content b.body.content a.got (string_bytes t)

-- the preset size after such a poll
abbrev pub LowersText : {S : Type 0} → (S → Meaning) → Gathering S → Content S → Poll (Result (String Global) DataError)
    → Type 0
LowersText meaning a d Pending = preset_of d ≡ preset_of a.body.content
LowersText meaning a d (Ready (Err (error.NotUtf8 valid_up_to))) =
    ForSome (all_of meaning a.got a.body.content) (λ w. preset_of d ≡ lowered a.body.content (length w))
LowersText meaning a d (Ready (Err e)) = preset_of d ≡ preset_of a.body.content
LowersText meaning a d (Ready (Ok t)) = preset_of d ≡ lowered a.body.content (length (string_bytes t))
