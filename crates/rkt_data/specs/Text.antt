-- What a state holds that gathers the text of an opened body, and what it answers.
use Rattle.std.specs.Option.{ForSome}
use Rattle.std.specs.Prelude.{◌≡◌, ⊤, ℕ, ◌≤◌, ◌<◌, Bool, true, false, IsUtf8, List, [], take, Option, None, Some, Result, Ok, Err, String, string_bytes, vec_len}
use Rattle.std.specs.Str.Lossy.{utf8_valid_len}
use Rattle.std.specs.declared.alloc.Global.{Global}
use Rattle.rkt_base.specs.declared.poll.Poll.{Poll}
use Rattle.rkt_base.specs.declared.poll.Poll.TheVariants.{Ready, Pending}
use Rattle.rkt_data.specs.Gathering.{Causes, Gathering, Gathered, Draws, IsUsedUp, Completes, cause_of, cut_from}
use Rattle.rkt_source.specs.Source.{Meaning, Polled}
use Rattle.rkt_data.specs.Stream.{Opened, Piped, whole_of}
use Rattle.rkt_data.specs.CountedSource.{TapErrs, TapWaits, ended}
use Rattle.rkt_data.specs.declared.capped.Capped.{Capped}
use Rattle.rkt_data.specs.declared.error.DataError.{DataError}
use Rattle.rkt_data.specs.declared.into_string.Found.{Found}
use Rattle.rkt_data.specs.declared.into_string.Found.TheVariants as found
use Rattle.rkt_data.specs.declared.into_string.Texted.{Texted}
use Rattle.rkt_data.specs.declared.into_string.Texted.TheVariants as texted
use Rattle.rkt_source.specs.declared.source.Gate.{Gate}

abbrev pub found_bytes : Found → List ℕ
found_bytes (found.Bytes room count) = take count room.items
found_bytes (found.Text text) = string_bytes text

abbrev pub found_so_far : Option Found → List ℕ
found_so_far None = []
found_so_far (Some f) = found_bytes f

-- the count is within the buffer, and where the text is found, all up to the limit was given
abbrev pub IsRead : {S : Type 0} → (S → Meaning) → Opened S → Option Found → Type 0
IsRead meaning o None = ⊤
IsRead meaning o (Some (found.Bytes room count)) = count ≤ vec_len room
IsRead meaning o (Some (found.Text text)) = IsUsedUp meaning o

-- until its last answer a state holds what was read so far, and nothing past the limit was read
abbrev pub GathersText : {S : Type 0} → (S → Meaning) → Piped S → ℕ → Option Found → Option DataError → Bool → Type 0
GathersText meaning p from f (Some e) done = ⊤
GathersText meaning p from f None true = ⊤
GathersText meaning p from f None false =
    Gathered meaning p.opened from (found_so_far f) × (p.probed ≡ false) × IsRead meaning p.opened f

-- why no text was read
abbrev pub TextFails : {S : Type 0} → (S → Meaning) → List ℕ → Opened S → Opened S → DataError → Type 0
TextFails meaning got o p e = Causes
    (λ cause. TapErrs meaning cause o.tap p.tap × (p.given < p.limit))
    ⊥
    (λ valid_up_to. IsUsedUp meaning p × (valid_up_to ≡ utf8_valid_len got) × (IsUtf8 got → ⊥))
    ⊤
    e

-- what reading for a text came to
abbrev pub Texts : {S : Type 0} → (S → Meaning) → Polled S → Gate → Found → Piped S → Piped S → Texted → Type 0
Texts meaning polled gate f o p (texted.Text text) =
    Draws meaning polled gate ended o p (found_bytes f) (string_bytes text) × IsUsedUp meaning p.opened
Texts meaning polled gate f o p (texted.Waiting room count) =
    Draws meaning polled gate Pending o p (found_bytes f) (take count room.items)
    × (count ≤ vec_len room)
    × TapWaits meaning o.opened.tap p.opened.tap
Texts meaning polled gate f o p (texted.Failed e) =
    (got : List ℕ)
    × Draws meaning polled gate (Ready (cause_of e)) o p (found_bytes f) got
    × TextFails meaning got o.opened p.opened e

-- when a reading of text may fail with each error: NotUtf8 where all up to the limit was read and is no UTF-8, and no
-- other error of the source where that is so
abbrev pub TextErr : {S : Type 0} → (S → Meaning) → ℕ → Opened S → Opened S → DataError → Type 0
TextErr meaning from o p e =
    Causes (λ cause. TapErrs meaning cause o.tap p.tap
    × (p.given ≡ p.limit → ForSome (whole_of meaning o) (λ b. IsUtf8 (cut_from from b o.limit)))) ⊥
    (λ valid_up_to. IsUsedUp meaning p
    × ForSome (whole_of meaning o) (λ b.
    (valid_up_to ≡ utf8_valid_len (cut_from from b o.limit)) × (IsUtf8 (cut_from from b o.limit) → ⊥))) ⊤ e

-- what a poll answers that gathers text
abbrev pub AnswersText : {S : Type 0} → (S → Meaning) → Gathering S → Gathering S
    → Poll (Result (Capped (String Global)) DataError) → Type 0
AnswersText meaning a b Pending = (b.failed ≡ None) × (b.done ≡ false) × TapWaits meaning a.stream.tap b.stream.tap
AnswersText meaning a b (Ready (Err e)) = (b.failed ≡ Some e) × (b.done ≡ false) × TextErr meaning a.from a.stream b.stream e
AnswersText meaning a b (Ready (Ok c)) = (b.done ≡ true) × Completes meaning a.stream a.from (string_bytes c.value) c.n
