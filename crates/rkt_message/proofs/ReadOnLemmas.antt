-- A response that is read on, poll by poll.
use Rattle.std.proofs.Common.{◌≡◌, ◌<◌, ◌+◌, ◌∙◌, inl, inr, ⊎_elim, ℕ, arith, List, [], Option, Some, Result, Ok, Err, le_trans, refl, sym, subst}
use Rattle.rkt_source.specs.Source.{Meaning, Keeps, Polled}
use Rattle.rkt_message.specs.Body.{preset_of}
use Rattle.rkt_base.specs.declared.poll.Poll.TheVariants.{Ready}
use Rattle.rkt_source.specs.declared.source.Gate.{Gate}
use Rattle.rkt_message.specs.Reading.{Follows, LeftAlone, ReadsOn, StreamWaits, Takes}
use Rattle.rkt_message.specs.Response.{ResponseOf}
use Rattle.rkt_message.specs.Sending.{Answers, HasWaited, IsSending, PieceByGate, ReadOn, ReadsOnUnder, Sending, InvariantAt}
use Rattle.rkt_message.specs.declared.content.Content.{Content}
use Rattle.rkt_message.specs.declared.content.Content.TheVariants as content
use Rattle.rkt_message.specs.declared.piece.Piece.{Piece}
use Rattle.rkt_message.specs.declared.piece.Piece.TheVariants.{Head, Chunk, End}
use Rattle.rkt_message.specs.declared.piece.PieceError.{PieceError}
use Rattle.rkt_message.specs.declared.piece.PieceError.TheVariants as error
use Rattle.rkt_message.specs.declared.stage.Stage.{Stage}
use Rattle.rkt_message.proofs.Readings.{ReadsOn-refl, ReadsOn-trans}

-- a response that is left alone is read on
pub reads_nothing : {S : Type 0} (meaning : S → Meaning) (trip : Option ℕ) (p : ResponseOf S) → ReadsOnUnder meaning trip p p
reads_nothing meaning trip p = record { status = refl; headers = refl; body = record { content = ReadsOn-refl meaning trip p.body.content; chunk = refl }; size = inl refl }

-- the source of a body that is as it was
pub left_alone : {S : Type 0} (c : Content S) → LeftAlone c c
left_alone content.None = tt
left_alone content.UnsizedNone = tt
left_alone (content.Sized rest size) = tt
left_alone (content.Phantom length size) = tt
left_alone (content.Streamed s) = refl

-- the head is formed without a read of the body
pub head_asks : {S : Type 0} (meaning : S → Meaning) (polled : Polled S) (gate : Gate) (room : ℕ) (s t : Sending S) (answer : Result Piece PieceError) (c : Content S) → s.given ≡ [] → Answers meaning s t (Ready answer) → PieceByGate polled gate room (Ready answer) c c
head_asks meaning polled gate room s t (Ok (Head status headers)) c at h = left_alone c
head_asks meaning polled gate room s t (Ok (Chunk bytes)) c at h = absurd (h.0.head.1 at)
head_asks meaning polled gate room s t (Ok End) c at h = absurd (h.0.head.1 at)
head_asks meaning polled gate room s t (Err error.BadHead) c at h = left_alone c
head_asks meaning polled gate room s t (Err error.BodyFault) c at h = absurd (h.0 at)
head_asks meaning polled gate room s t (Err error.NoMemory) c at h = left_alone c

pub takes_nothing : {S : Type 0} (meaning : S → Meaning) (c : Content S) → Takes meaning c c 0
takes_nothing meaning content.None = tt
takes_nothing meaning content.UnsizedNone = tt
takes_nothing meaning (content.Sized rest size) = tt
takes_nothing meaning (content.Phantom length size) = tt
takes_nothing meaning (content.Streamed s) = omega arith

-- under a Gate with a trip the same may change, and more
under_any : {trip : Option ℕ} {m n : Meaning} → Keeps trip m n → Keeps (Some 0) m n
under_any k = record { whole = k.whole; never_faults = k.never_faults; pendings = k.pendings; faults = k.faults; pended = k.pended; warned = λ h. inr refl; still_warned = k.still_warned; still_shut = k.still_shut }

content_under_any : {S : Type 0} (meaning : S → Meaning) (trip : Option ℕ) (c d : Content S) → ReadsOn meaning trip c d → ReadsOn meaning (Some 0) c d
content_under_any meaning trip content.None d p = p
content_under_any meaning trip content.UnsizedNone d p = p
content_under_any meaning trip (content.Sized rest size) d p = p
content_under_any meaning trip (content.Phantom length size) d p = p
content_under_any meaning trip (content.Streamed s) d p = (p.0, p.1, under_any p.2)

content_more : {S : Type 0} (meaning : S → Meaning) (t u : Option ℕ) (c d e : Content S) → ReadsOn meaning t c d → ReadsOn meaning u d e → ReadsOn meaning (Some 0) c e
content_more meaning t u c d e p q = ReadsOn-trans meaning (Some 0) c d e (content_under_any meaning t c d p) (content_under_any meaning u d e q)

-- a response that is read on once more
pub reads_more : {S : Type 0} (meaning : S → Meaning) (trip : Option ℕ) (p q r : ResponseOf S) → ReadOn meaning p q → r.status ≡ q.status → r.headers ≡ q.headers → Follows meaning trip q.body r.body
    → preset_of r.body.content ≡ preset_of q.body.content → ReadOn meaning p r
reads_more meaning trip p q r on status headers follows preset = (
  Some 0,
  record {
    status = status ∙ on.1.status;
    headers = headers ∙ on.1.headers;
    body = record { content = content_more meaning on.0 trip p.body.content q.body.content r.body.content on.1.body.content follows.content; chunk = follows.chunk ∙ on.1.body.chunk };
    size = ⊎_elim (λ same. inl (preset ∙ same)) (λ counted. inr (preset ∙ counted)) on.1.size;
  },
)

-- a state goes on with a response that is read on once more
pub sends_on : {S : Type 0} (meaning : S → Meaning) (trip : Option ℕ) (before at : Stage) (begun q r : ResponseOf S) (turns waits n : ℕ) (old new : List Piece) → IsSending meaning before q begun turns waits old → InvariantAt meaning at r begun new → r.status ≡ q.status → r.headers ≡ q.headers
    → Follows meaning trip q.body r.body → preset_of r.body.content ≡ preset_of q.body.content → n < turns → HasWaited meaning n r.body.content → IsSending meaning at r begun turns n new
sends_on meaning trip before at begun q r turns waits n old new sending stands status headers follows preset below waited = record {
  read_on = reads_more meaning trip begun q r sending.read_on status headers follows preset;
  below = below;
  waited = waited;
  chunk = rw follows.chunk sending.chunk;
  stands = stands;
}

-- the source was Pending once more
pub waited_more : {S : Type 0} (meaning : S → Meaning) (n : ℕ) (c d : Content S) → HasWaited meaning n c → StreamWaits meaning c d → HasWaited meaning (n + 1) d
waited_more meaning n (content.Streamed s) (content.Streamed t) h w = omega (arith, h, w.0)
waited_more meaning n (content.Streamed s) content.None h w = absurd w
waited_more meaning n (content.Streamed s) content.UnsizedNone h w = absurd w
waited_more meaning n (content.Streamed s) (content.Sized rest size) h w = absurd w
waited_more meaning n (content.Streamed s) (content.Phantom length size) h w = absurd w
waited_more meaning n content.None d h w = absurd w
waited_more meaning n content.UnsizedNone d h w = absurd w
waited_more meaning n (content.Sized rest size) d h w = absurd w
waited_more meaning n (content.Phantom length size) d h w = absurd w

-- no read takes a Pending back
pub waited_still : {S : Type 0} (meaning : S → Meaning) (trip : Option ℕ) (n : ℕ) (c d : Content S) → ReadsOn meaning trip c d → HasWaited meaning n c → HasWaited meaning n d
waited_still meaning trip n content.None d p h = subst (HasWaited meaning n) (sym p) tt
waited_still meaning trip n content.UnsizedNone d p h = subst (HasWaited meaning n) (sym p) tt
waited_still meaning trip n (content.Sized rest size) d p h = subst (HasWaited meaning n) (sym p.2) tt
waited_still meaning trip n (content.Phantom length size) d p h = subst (HasWaited meaning n) (sym p.1) tt
waited_still meaning trip n (content.Streamed s) d p h = subst (HasWaited meaning n) (sym p.1) (le_trans h p.2.pended)

pub never_waited : {S : Type 0} (meaning : S → Meaning) (c : Content S) → HasWaited meaning 0 c
never_waited meaning content.None = tt
never_waited meaning content.UnsizedNone = tt
never_waited meaning (content.Sized rest size) = tt
never_waited meaning (content.Phantom length size) = tt
never_waited meaning (content.Streamed s) = omega arith
