-- Bodies that are read on, several times.
use Rattle.std.specs.Option.{ForSome}
use Rattle.std.specs.Prelude.{option_map}
use Rattle.std.proofs.Common.{◌≡◌, ◌<◌, ℕ, ◌+◌, ◌≤◌, ◌++◌, ◌∙◌, List, length, take, drop, Option, None, Some, Ok, Err, refl, sym, ap, subst, arith, append_assoc, length-append, length-take-le, drop-drop, take-append-drop}
use Rattle.rkt_source.proofs.Sources.{Keeps-refl, Keeps-trans}
use Rattle.rkt_data.proofs.Pulls.{front_of, same_front}
use Rattle.rkt_base.specs.declared.poll.Poll.TheVariants.{Ready}
use Rattle.rkt_data.proofs.CountedSources.{PollsTo-after, PollsTo-gave}
use Rattle.rkt_data.specs.Gathering.{cause_of, data_error_of}
use Rattle.rkt_source.specs.Source.{Meaning, Keeps, Errs, Polled}
use Rattle.rkt_data.specs.CountedSource.{Ending, Polls, gave}
use Rattle.rkt_data.specs.declared.error.DataError.{DataError}
use Rattle.rkt_data.specs.declared.error.DataError.TheVariants as error
use Rattle.rkt_source.specs.declared.source.Gate.{Gate}
use Rattle.rkt_source.specs.declared.source.SourceError.{SourceError}
use Rattle.rkt_source.specs.declared.source.SourceError.TheVariants as source_error
use Rattle.rkt_message.specs.Body.{BodyOf, left_of, preset_of, resized}
use Rattle.rkt_message.specs.Reading.{ByGate, Follows, ReadsOn, ReadsSource, StreamErrs, StreamWaits, Takes}
use Rattle.rkt_message.specs.Whole.{BytesErr, Draws, Stops, all_of}
use Rattle.rkt_message.specs.declared.content.Content.{Content}
use Rattle.rkt_message.specs.declared.content.Content.TheVariants as content
use Rattle.rkt_message.specs.declared.drain.Stop.{Stop}
use Rattle.rkt_message.specs.declared.drain.Stop.TheVariants as stop

pub ReadsOn-refl : {S : Type 0} (meaning : S → Meaning) (trip : Option ℕ) (c : Content S) → ReadsOn meaning trip c c
ReadsOn-refl meaning trip content.None = refl
ReadsOn-refl meaning trip content.UnsizedNone = refl
ReadsOn-refl meaning trip (content.Sized rest size) = (0, size, refl)
ReadsOn-refl meaning trip (content.Phantom length size) = (size, refl)
ReadsOn-refl meaning trip (content.Streamed s) = (s, refl, Keeps-refl trip (meaning s))

pub ReadsOn-trans : {S : Type 0} (meaning : S → Meaning) (trip : Option ℕ) (c d e : Content S) → ReadsOn meaning trip c d → ReadsOn meaning trip d e → ReadsOn meaning trip c e
ReadsOn-trans meaning trip content.None d e p q = subst (λ x. ReadsOn meaning trip x e) p q
ReadsOn-trans meaning trip content.UnsizedNone d e p q = subst (λ x. ReadsOn meaning trip x e) p q
ReadsOn-trans meaning trip (content.Sized rest size) d e p q =
    let r = subst (λ x. ReadsOn meaning trip x e) p.2 q in
    (p.0 + r.0, r.1, r.2 ∙ ap (λ (x : List ℕ). content.Sized x r.1) (drop-drop r.0 p.0 rest))
ReadsOn-trans meaning trip (content.Phantom length size) d e p q = subst (λ x. ReadsOn meaning trip x e) p.1 q
ReadsOn-trans meaning trip (content.Streamed s) d e p q =
    let r = subst (λ x. ReadsOn meaning trip x e) p.1 q in
    (r.0, r.1, Keeps-trans p.2 r.2)

-- a source that was read gave bytes
pub ByGate-gave : {S : Type 0} (meaning : S → Meaning) (polled : Polled S) (gate : Gate) (n : ℕ) (c d : Content S) (old new : List ℕ) → 0 < n → 0 < length old
    → ((s : S) → c ≡ content.Streamed s → 0 < length old → ReadsSource meaning polled gate s d old new (Ready (Ok n))) → ByGate polled gate gave c d
ByGate-gave meaning polled gate n content.None d old new more room reads = tt
ByGate-gave meaning polled gate n content.UnsizedNone d old new more room reads = tt
ByGate-gave meaning polled gate n (content.Sized rest size) d old new more room reads = tt
ByGate-gave meaning polled gate n (content.Phantom length size) d old new more room reads = tt
ByGate-gave meaning polled gate n (content.Streamed s) d old new more room reads =
    let read = reads s refl room in
    subst (λ x. ByGate polled gate gave (content.Streamed s) x) (sym read.1) (PollsTo-gave polled gate (length old) n s read.0 room more read.2)

-- with another preset size
pub ReadsOn-resized : {S : Type 0} (meaning : S → Meaning) (trip : Option ℕ) (c d : Content S) (size : Option ℕ) → ReadsOn meaning trip c d → ReadsOn meaning trip c (resized d size)
ReadsOn-resized meaning trip content.None d z p = ap (λ x. resized x z) p
ReadsOn-resized meaning trip content.UnsizedNone d z p = ap (λ x. resized x z) p
ReadsOn-resized meaning trip (content.Sized rest size) d z p = (p.0, z, ap (λ x. resized x z) p.2)
ReadsOn-resized meaning trip (content.Phantom length size) d z p = (z, ap (λ x. resized x z) p.1)
ReadsOn-resized meaning trip (content.Streamed s) d z p = (p.0, ap (λ x. resized x z) p.1, p.2)

pub left_of-resized : {S : Type 0} (meaning : S → Meaning) (c : Content S) (size : Option ℕ) → left_of meaning (resized c size) ≡ left_of meaning c
left_of-resized meaning content.None z = refl
left_of-resized meaning content.UnsizedNone z = refl
left_of-resized meaning (content.Sized rest size) z = refl
left_of-resized meaning (content.Phantom length size) z = refl
left_of-resized meaning (content.Streamed s) z = refl

ByGate-refl : {S : Type 0} (polled : Polled S) (gate : Gate) (c : Content S) → ByGate polled gate gave c c
ByGate-refl polled gate content.None = tt
ByGate-refl polled gate content.UnsizedNone = tt
ByGate-refl polled gate (content.Sized rest size) = tt
ByGate-refl polled gate (content.Phantom length size) = tt
ByGate-refl polled gate (content.Streamed s) = Polls.none

pub ByGate-trans : {S : Type 0} (meaning : S → Meaning) (polled : Polled S) (gate : Gate) (how : Ending) (c d e : Content S) → ReadsOn meaning gate.tripped c d → ReadsOn meaning gate.tripped d e
    → ByGate polled gate gave c d → ByGate polled gate how d e → ByGate polled gate how c e
ByGate-trans meaning polled gate how content.None d e p q a b = tt
ByGate-trans meaning polled gate how content.UnsizedNone d e p q a b = tt
ByGate-trans meaning polled gate how (content.Sized rest size) d e p q a b = tt
ByGate-trans meaning polled gate how (content.Phantom length size) d e p q a b = tt
ByGate-trans meaning polled gate how (content.Streamed s) d e p q a b =
    let r = subst (λ x. ReadsOn meaning gate.tripped x e) p.1 q in
    let first = subst (λ x. ByGate polled gate gave (content.Streamed s) x) p.1 a in
    let second = subst (λ x. ByGate polled gate how (content.Streamed p.0) x) r.1 (subst (λ x. ByGate polled gate how x e) p.1 b) in
    subst (λ x. ByGate polled gate how (content.Streamed s) x) (sym r.1) (PollsTo-after polled gate how s p.0 r.0 first second)

pub ByGate-resized : {S : Type 0} (polled : Polled S) (gate : Gate) (how : Ending) (c d : Content S) (size : Option ℕ) → ByGate polled gate how c d → ByGate polled gate how c (resized d size)
ByGate-resized polled gate how content.None d z a = tt
ByGate-resized polled gate how content.UnsizedNone d z a = tt
ByGate-resized polled gate how (content.Sized rest size) d z a = tt
ByGate-resized polled gate how (content.Phantom length size) d z a = tt
ByGate-resized polled gate how (content.Streamed s) content.None z a = tt
ByGate-resized polled gate how (content.Streamed s) content.UnsizedNone z a = tt
ByGate-resized polled gate how (content.Streamed s) (content.Sized rest size) z a = tt
ByGate-resized polled gate how (content.Streamed s) (content.Phantom length size) z a = tt
ByGate-resized polled gate how (content.Streamed s) (content.Streamed t) z a = a

-- an error of the source is the cause of the one that is answered
pub ByGate-caused : {S : Type 0} (polled : Polled S) (gate : Gate) (e : SourceError) (x : DataError) (c d : Content S) → x ≡ data_error_of e → ByGate polled gate (Ready (Err e)) c d → ByGate polled gate (Ready (cause_of x)) c d
ByGate-caused polled gate source_error.SourceFault x c d is h = rw is h
ByGate-caused polled gate source_error.Gone x c d is h = rw is h
ByGate-caused polled gate source_error.TimedOut x c d is h = rw is h

Takes-refl : {S : Type 0} (meaning : S → Meaning) (c : Content S) → Takes meaning c c 0
Takes-refl meaning content.None = tt
Takes-refl meaning content.UnsizedNone = tt
Takes-refl meaning (content.Sized rest size) = tt
Takes-refl meaning (content.Phantom length size) = tt
Takes-refl meaning (content.Streamed s) = omega arith

Takes-trans : {S : Type 0} (meaning : S → Meaning) (trip : Option ℕ) (c d e : Content S) (i j : ℕ) → ReadsOn meaning trip c d → ReadsOn meaning trip d e → Takes meaning c d i → Takes meaning d e j → Takes meaning c e (i + j)
Takes-trans meaning trip content.None d e i j p q a b = tt
Takes-trans meaning trip content.UnsizedNone d e i j p q a b = tt
Takes-trans meaning trip (content.Sized rest size) d e i j p q a b = tt
Takes-trans meaning trip (content.Phantom length size) d e i j p q a b = tt
Takes-trans meaning trip (content.Streamed s) d e i j p q a b =
    let r = subst (λ x. ReadsOn meaning trip x e) p.1 q in
    let first = subst (λ x. Takes meaning (content.Streamed s) x i) p.1 a in
    let second = subst (λ x. Takes meaning (content.Streamed p.0) x j) r.1 (subst (λ x. Takes meaning x e j) p.1 b) in
    let sum : (meaning r.0).taken ≡ (meaning s).taken + (i + j) = omega (arith, first, second) in
    subst (λ x. Takes meaning (content.Streamed s) x (i + j)) (sym r.1) sum

pub Takes-resized : {S : Type 0} (meaning : S → Meaning) (c d : Content S) (size : Option ℕ) (count : ℕ) → Takes meaning c d count → Takes meaning c (resized d size) count
Takes-resized meaning content.None d z count a = tt
Takes-resized meaning content.UnsizedNone d z count a = tt
Takes-resized meaning (content.Sized rest size) d z count a = tt
Takes-resized meaning (content.Phantom length size) d z count a = tt
Takes-resized meaning (content.Streamed s) content.None z count a = tt
Takes-resized meaning (content.Streamed s) content.UnsizedNone z count a = tt
Takes-resized meaning (content.Streamed s) (content.Sized rest size) z count a = tt
Takes-resized meaning (content.Streamed s) (content.Phantom length size) z count a = tt
Takes-resized meaning (content.Streamed s) (content.Streamed t) z count a = a

left_refl : (o : Option (List ℕ)) → o ≡ option_map (drop 0) o
left_refl None = refl
left_refl (Some w) = refl

left_trans : (i j : ℕ) (o o' o'' : Option (List ℕ)) → o' ≡ option_map (drop i) o → o'' ≡ option_map (drop j) o' → o'' ≡ option_map (drop (i + j)) o
left_trans i j None o' o'' e f = f ∙ ap (option_map (drop j)) e
left_trans i j (Some w) o' o'' e f = f ∙ ap (option_map (drop j)) e ∙ ap Some (drop-drop j i w)

waits_from : {S : Type 0} (meaning : S → Meaning) (trip : Option ℕ) (s t : S) (e : Content S) → Keeps trip (meaning s) (meaning t) → StreamWaits meaning (content.Streamed t) e → StreamWaits meaning (content.Streamed s) e
waits_from meaning trip s t content.None k w = w
waits_from meaning trip s t content.UnsizedNone k w = w
waits_from meaning trip s t (content.Sized rest size) k w = w
waits_from meaning trip s t (content.Phantom length size) k w = w
waits_from meaning trip s t (content.Streamed u) k w =
    let before = k.pended in
    let bound = k.pendings in
    (omega (arith, before, w.0), omega (arith, bound, w.1))

-- a source that was Pending after some reads was Pending
pub StreamWaits-after : {S : Type 0} (meaning : S → Meaning) (trip : Option ℕ) (c d e : Content S) → ReadsOn meaning trip c d → StreamWaits meaning d e → StreamWaits meaning c e
StreamWaits-after meaning trip content.None d e p w = absurd (subst (λ x. StreamWaits meaning x e) p w)
StreamWaits-after meaning trip content.UnsizedNone d e p w = absurd (subst (λ x. StreamWaits meaning x e) p w)
StreamWaits-after meaning trip (content.Sized rest size) d e p w = absurd (subst (λ x. StreamWaits meaning x e) p.2 w)
StreamWaits-after meaning trip (content.Phantom length size) d e p w = absurd (subst (λ x. StreamWaits meaning x e) p.1 w)
StreamWaits-after meaning trip (content.Streamed s) d e p w = waits_from meaning trip s p.0 e p.2 (subst (λ x. StreamWaits meaning x e) p.1 w)

errs_after : {trip : Option ℕ} (cause : SourceError) (a b c : Meaning) → Keeps trip a b → Errs cause b c → Errs cause a c
errs_after source_error.SourceFault a b c k r = let h = k.faults in (omega (arith, h, r.0), sym k.never_faults ∙ r.1)
errs_after source_error.Gone a b c k r = r
errs_after source_error.TimedOut a b c k r = r

errs_from : {S : Type 0} (meaning : S → Meaning) (trip : Option ℕ) (cause : SourceError) (s t : S) (e : Content S) → Keeps trip (meaning s) (meaning t) → StreamErrs meaning cause (content.Streamed t) e → StreamErrs meaning cause (content.Streamed s) e
errs_from meaning trip cause s t content.None k w = w
errs_from meaning trip cause s t content.UnsizedNone k w = w
errs_from meaning trip cause s t (content.Sized rest size) k w = w
errs_from meaning trip cause s t (content.Phantom length size) k w = w
errs_from meaning trip cause s t (content.Streamed u) k w = errs_after cause (meaning s) (meaning t) (meaning u) k w

-- an error after some reads has its cause
pub StreamErrs-after : {S : Type 0} (meaning : S → Meaning) (trip : Option ℕ) (cause : SourceError) (c d e : Content S) → ReadsOn meaning trip c d → StreamErrs meaning cause d e → StreamErrs meaning cause c e
StreamErrs-after meaning trip cause content.None d e p w = absurd (subst (λ x. StreamErrs meaning cause x e) p w)
StreamErrs-after meaning trip cause content.UnsizedNone d e p w = absurd (subst (λ x. StreamErrs meaning cause x e) p w)
StreamErrs-after meaning trip cause (content.Sized rest size) d e p w = absurd (subst (λ x. StreamErrs meaning cause x e) p.2 w)
StreamErrs-after meaning trip cause (content.Phantom length size) d e p w = absurd (subst (λ x. StreamErrs meaning cause x e) p.1 w)
StreamErrs-after meaning trip cause (content.Streamed s) d e p w = errs_from meaning trip cause s p.0 e p.2 (subst (λ x. StreamErrs meaning cause x e) p.1 w)

pub BytesErr-after : {S : Type 0} (meaning : S → Meaning) (trip : Option ℕ) (cause : DataError) (c d e : Content S) → ReadsOn meaning trip c d → BytesErr meaning d e cause → BytesErr meaning c e cause
BytesErr-after meaning trip error.SourceFault c d e p w = StreamErrs-after meaning trip source_error.SourceFault c d e p w
BytesErr-after meaning trip error.Gone c d e p w = StreamErrs-after meaning trip source_error.Gone c d e p w
BytesErr-after meaning trip error.TimedOut c d e p w = StreamErrs-after meaning trip source_error.TimedOut c d e p w
BytesErr-after meaning trip (error.NotUtf8 valid_up_to) c d e p w = w
BytesErr-after meaning trip error.SinkFault c d e p w = w
BytesErr-after meaning trip error.NoMemory c d e p w = w

pub BytesErr-read : {S : Type 0} (meaning : S → Meaning) (cause : SourceError) (c d : Content S) → StreamErrs meaning cause c d → BytesErr meaning c d (data_error_of cause)
BytesErr-read meaning source_error.SourceFault c d w = w
BytesErr-read meaning source_error.Gone c d w = w
BytesErr-read meaning source_error.TimedOut c d w = w

-- why reading stopped, after some reads
pub Stops-after : {S : Type 0} (meaning : S → Meaning) (trip : Option ℕ) (why : Stop) (c d e : Content S) → ReadsOn meaning trip c d → Stops meaning d e why → Stops meaning c e why
Stops-after meaning trip stop.End c d e p w = w
Stops-after meaning trip (stop.Failed cause) c d e p w = BytesErr-after meaning trip cause c d e p w
Stops-after meaning trip stop.Waiting c d e p w = StreamWaits-after meaning trip c d e p w

-- a read of no bytes
pub left_same : (k : ℕ) (o o' : Option (List ℕ)) → k ≡ 0 → o' ≡ option_map (drop k) o → o' ≡ o
left_same k None o' e h = h
left_same k (Some w) o' e h = h ∙ ap (λ (n : ℕ). Some (drop n w)) e

pub Follows-refl : {S : Type 0} (meaning : S → Meaning) (trip : Option ℕ) (b : BodyOf S) → Follows meaning trip b b
Follows-refl meaning trip b = record { content = ReadsOn-refl meaning trip b.content; chunk = refl }

pub Draws-start : {S : Type 0} (meaning : S → Meaning) (polled : Polled S) (gate : Gate) (b : BodyOf S) (old : List ℕ) → Draws meaning polled gate gave b b old old
Draws-start meaning polled gate b old = record {
  follows = Follows-refl meaning gate.tripped b;
  preset = refl;
  by_gate = ByGate-refl polled gate b.content;
  all = refl;
  moves = (0, omega arith, (Takes-refl meaning b.content, left_refl (left_of meaning b.content)));
}

pub Draws-trans : {S : Type 0} {meaning : S → Meaning} {polled : Polled S} {gate : Gate} {how : Ending} {b c d : BodyOf S} {old mid new : List ℕ} → Draws meaning polled gate gave b c old mid → Draws meaning polled gate how c d mid new → Draws meaning polled gate how b d old new
Draws-trans {meaning = meaning} {polled = polled} {gate = gate} {how = how} {b = b} {c = c} {d = d} p q = record {
  follows = record {
    content = ReadsOn-trans meaning gate.tripped b.content c.content d.content p.follows.content q.follows.content;
    chunk = q.follows.chunk ∙ p.follows.chunk;
  };
  preset = q.preset ∙ p.preset;
  by_gate = ByGate-trans meaning polled gate how b.content c.content d.content p.follows.content q.follows.content p.by_gate q.by_gate;
  all = q.all ∙ p.all;
  moves = (
    p.moves.0 + q.moves.0,
    omega (arith, p.moves.1, q.moves.1),
    (
      Takes-trans meaning gate.tripped b.content c.content d.content p.moves.0 q.moves.0 p.follows.content q.follows.content p.moves.2.0 q.moves.2.0,
      left_trans p.moves.0 q.moves.0 (left_of meaning b.content) (left_of meaning c.content) (left_of meaning d.content) p.moves.2.1 q.moves.2.1,
    ),
  );
}

-- what was read and what is left, after a read of k bytes
read_all : (k : ℕ) (got buf : List ℕ) (o o' : Option (List ℕ)) → o' ≡ option_map (drop k) o → ForSome o (λ w. take k buf ≡ take k w)
    → option_map (λ left. (got ++ take k buf) ++ left) o' ≡ option_map (λ left. got ++ left) o
read_all k got buf None o' e h = ap (option_map (λ left. (got ++ take k buf) ++ left)) e
read_all k got buf (Some w) o' e h =
    ap (option_map (λ left. (got ++ take k buf) ++ left)) e
    ∙ ap Some (append_assoc got (take k buf) (drop k w) ∙ ap (λ (x : List ℕ). got ++ x) (ap (λ (x : List ℕ). x ++ drop k w) (h w refl) ∙ take-append-drop k w))

read_length : (n k : ℕ) (room buf post : List ℕ) → n ≤ length room → k ≤ length buf → length (take (n + k) (take n room ++ (buf ++ post))) ≡ length (take n room) + k
read_length n k room buf post within fits =
    ap length (front_of n k (take n room) buf post (length-take-le n room within) fits) ∙ length-append (take n room) (take k buf) ∙ ap (λ (i : ℕ). length (take n room) + i) (length-take-le k buf fits)

-- one read, into a buffer behind its first n bytes
pub Draws-read : {S : Type 0} {meaning : S → Meaning} {polled : Polled S} {gate : Gate} {b c d : BodyOf S} {old : List ℕ} (n k : ℕ) (room buf post : List ℕ) → Draws meaning polled gate gave b c old (take n room) → n ≤ length room → k ≤ length buf
    → Follows meaning gate.tripped c d → preset_of d.content ≡ preset_of c.content → ByGate polled gate gave c.content d.content
    → left_of meaning d.content ≡ option_map (drop k) (left_of meaning c.content) → ForSome (left_of meaning c.content) (λ w. take k buf ≡ take k w) → Takes meaning c.content d.content k
    → Draws meaning polled gate gave b d old (take (n + k) (take n room ++ (buf ++ post)))
Draws-read {meaning = meaning} {c = c} {d = d} n k room buf post p within fits follows preset by_gate left bytes takes = Draws-trans p record {
  follows = follows;
  preset = preset;
  by_gate = by_gate;
  all = ap (λ (x : List ℕ). all_of meaning x d.content) (front_of n k (take n room) buf post (length-take-le n room within) fits)
      ∙ read_all k (take n room) buf (left_of meaning c.content) (left_of meaning d.content) left bytes;
  moves = (k, read_length n k room buf post within fits, (takes, left));
}

-- one read that gave nothing
pub Draws-nothing : {S : Type 0} {meaning : S → Meaning} {polled : Polled S} {gate : Gate} {how : Ending} {b c d : BodyOf S} {old : List ℕ} (n : ℕ) (room buf post : List ℕ) → Draws meaning polled gate gave b c old (take n room) → n ≤ length room
    → Follows meaning gate.tripped c d → preset_of d.content ≡ preset_of c.content → ByGate polled gate how c.content d.content → left_of meaning d.content ≡ left_of meaning c.content → Takes meaning c.content d.content 0
    → Draws meaning polled gate how b d old (take n (take n room ++ (buf ++ post)))
Draws-nothing {meaning = meaning} {c = c} {d = d} n room buf post p within follows preset by_gate left takes = Draws-trans p record {
  follows = follows;
  preset = preset;
  by_gate = by_gate;
  all = ap (λ (x : List ℕ). all_of meaning x d.content) (same_front n room buf post within) ∙ ap (option_map (λ left. take n room ++ left)) left;
  moves = (0, omega (arith, ap length (same_front n room buf post within)), (takes, left ∙ left_refl (left_of meaning c.content)));
}
