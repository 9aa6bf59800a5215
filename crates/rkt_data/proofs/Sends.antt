-- Sending an opened body to a sink.
use Rattle.std.proofs.Common.{◌≡◌, ℕ, ◌+◌, ◌-◌, ◌≤◌, ◌<◌, ◌++◌, ◌∙◌, Bool, true, false, inl, inr, List, [], length, take, drop, Option, None, Some, Result, Ok, Err, Vec, Global, vec_len, refl, sym, ap, ap₂, arith, le_refl, le_trans, append_assoc, append-nil, length-append, take-add, take-take, take_at, drop-drop}
use Rattle.std.proofs.Math.Seq.{drop-append_seam}
use Rattle.std.proofs.lemmas.List.{drop-take}
use Rattle.rkt_base.specs.declared.poll.Poll.{Poll}
use Rattle.rkt_base.specs.declared.poll.Poll.TheVariants.{Ready}
use Rattle.std.specs.Prelude.{nat_le, option_map}
use Rattle.std.proofs.lemmas.Bool.{leb-false, leb-true}
use Rattle.rkt_data.specs.Gathering.{Gained, Gathered, IsUsedUp, data_error_of}
use Rattle.rkt_source.specs.Buffer.{items_of}
use Rattle.rkt_data.specs.Sending.{Fed, Calls, CallsAs, Pumps, SentOf, Sends, SendsNext, SendErr, SentAll, HasRoom, between, sink_error_of}
use Rattle.rkt_source.specs.Sink.{SinkMeaning, SinkKeeps, SinkWaits, SinkErrs, Gains, Feeds, FeedEnding, FeedsTo}
use Rattle.rkt_source.specs.Source.{Meaning, Polled}
use Rattle.rkt_data.specs.Stream.{Opened, Piped, Follows, TakesAtMost}
use Rattle.rkt_data.specs.CountedSource.{ByGate, Ending, TapErrs, Tapped, ending_of, gave}
use Rattle.rkt_data.specs.declared.error.DataError.{DataError}
use Rattle.rkt_data.specs.declared.error.DataError.TheVariants as error
use Rattle.rkt_source.specs.declared.sink.SinkError.{SinkError}
use Rattle.rkt_source.specs.declared.sink.SinkError.TheVariants as sink_error
use Rattle.rkt_source.specs.declared.source.Gate.{Gate}
use Rattle.rkt_source.specs.declared.source.SourceError.{SourceError}
use Rattle.rkt_source.specs.declared.source.SourceError.TheVariants as source_error
use Rattle.rkt_data.proofs.Drains.{Follows-refl, Follows-trans, Gained-none, Gained-trans, Gathered-more, cut-gathered, whole_same}
use Rattle.rkt_data.proofs.CountedSources.{ByGate-refl, ByGate-trans}
use Rattle.rkt_source.proofs.Sinks.{FeedsTo-after}

pub SinkKeeps-refl : (m : SinkMeaning) → SinkKeeps m m
SinkKeeps-refl m = record { never_faults = refl; pendings = refl; faults = le_refl _; pended = le_refl _ }

pub SinkKeeps-trans : {m n o : SinkMeaning} → SinkKeeps m n → SinkKeeps n o → SinkKeeps m o
SinkKeeps-trans p q = record {
  never_faults = q.never_faults ∙ p.never_faults;
  pendings = q.pendings ∙ p.pendings;
  faults = le_trans p.faults q.faults;
  pended = le_trans p.pended q.pended;
}

-- a sink that has gained nothing
pub Gains-none : (m n : SinkMeaning) → n.held ≡ m.held → Gains m n []
Gains-none m n e = e ∙ gains_none m.held
  where
    gains_none : (o : Option (List ℕ)) → o ≡ option_map (λ h. h ++ []) o
    gains_none None = refl
    gains_none (Some h) = ap Some (sym (append-nil h))

gained_twice : (o : Option (List ℕ)) (xs ys : List ℕ) → option_map (λ h. h ++ ys) (option_map (λ h. h ++ xs) o) ≡ option_map (λ h. h ++ (xs ++ ys)) o
gained_twice None xs ys = refl
gained_twice (Some h) xs ys = ap Some (append_assoc h xs ys)

pub Gains-trans : (m n o : SinkMeaning) (xs ys : List ℕ) → Gains m n xs → Gains n o ys → Gains m o (xs ++ ys)
Gains-trans m n o xs ys p q = q ∙ ap (option_map (λ h. h ++ ys)) p ∙ gained_twice m.held xs ys

pub sink_errs_after : (e : SinkError) (a b c : SinkMeaning) → SinkKeeps a b → SinkErrs e b c → SinkErrs e a c
sink_errs_after sink_error.SinkFault a b c k r = let h = k.faults in (omega (arith, h, r.0), sym k.never_faults ∙ r.1)
sink_errs_after sink_error.NoMemory a b c k r = r

pub SinkWaits-after : (a b c : SinkMeaning) → SinkKeeps a b → SinkWaits b c → SinkWaits a c
SinkWaits-after a b c k r = let e = k.pendings in let h = k.pended in (omega (arith, h, r.0), omega (arith, e, r.1))

-- a piece is its first n bytes and the rest
pub between_parts : (at end n : ℕ) (buf : List ℕ) → at + n ≤ end → between at end buf ≡ take n (between at end buf) ++ between (at + n) end buf
between_parts at end n buf h =
    let size : end - at ≡ n + (end - (at + n)) = omega (arith, h) in
    ap (λ i. take i (drop at buf)) size ∙ take-add n (end - (at + n)) (drop at buf)
    ∙ ap₂ (λ xs ys. xs ++ ys) (sym (take-take n (end - at) (drop at buf) (omega (arith, h)))) (ap (take (end - (at + n))) (drop-drop n at buf))

-- a call that has failed for the source
pub CallsAs-source : {S K : Type 0} (polled : Polled S) (written : K → List ℕ → Poll (Result ℕ SinkError) → K → Type 0) (gate : Gate) (e : SourceError) (d : DataError) (t u : Option (Tapped S)) (k l : K) (bytes : List ℕ) → d ≡ data_error_of e
    → Calls polled written gate (Ready (Err e)) (Ready (Ok tt)) t u k bytes l → CallsAs polled written gate (Ready (Err d)) t u k bytes l
CallsAs-source polled written gate source_error.SourceFault d t u k l bytes is h = rw is h
CallsAs-source polled written gate source_error.Gone d t u k l bytes is h = rw is h
CallsAs-source polled written gate source_error.TimedOut d t u k l bytes is h = rw is h

-- a call that has failed for the sink
pub CallsAs-sink : {S K : Type 0} (polled : Polled S) (written : K → List ℕ → Poll (Result ℕ SinkError) → K → Type 0) (gate : Gate) (e : SinkError) (d : DataError) (t u : Option (Tapped S)) (k l : K) (bytes : List ℕ) → d ≡ sink_error_of e
    → Calls polled written gate gave (Ready (Err e)) t u k bytes l → CallsAs polled written gate (Ready (Err d)) t u k bytes l
CallsAs-sink polled written gate sink_error.SinkFault d t u k l bytes is h = rw is h
CallsAs-sink polled written gate sink_error.NoMemory d t u k l bytes is h = rw is (inr h)

pub Pumps-start : {S K : Type 0} (meaning : S → Meaning) (polled : Polled S) (sinks : K → SinkMeaning) (written : K → List ℕ → Poll (Result ℕ SinkError) → K → Type 0) (gate : Gate) (o : Piped S) (k : K) (old : List ℕ) → o.probed ≡ false → TakesAtMost meaning o.opened o.opened.limit
    → Pumps meaning polled sinks written gate (Ready (Ok false)) o o k k old old
Pumps-start meaning polled sinks written gate o k old h bound = record {
  follows = Follows-refl meaning gate.tripped o.opened;
  bound = bound;
  not_probed = h;
  keeps = SinkKeeps-refl (sinks k);
  more = [];
  out = [];
  gained = Gained-none refl;
  moved = append-nil old;
  gains = Gains-none (sinks k) (sinks k) refl;
  calls = (ByGate-refl polled gate o.opened.tap, Feeds.none);
  unmet = λ full over. (ByGate-refl polled gate o.opened.tap, Feeds.none);
}

-- some of what is pending was sent
pub Pumps-sent : {S K : Type 0} {meaning : S → Meaning} {polled : Polled S} {sinks : K → SinkMeaning} {written : K → List ℕ → Poll (Result ℕ SinkError) → K → Type 0} {gate : Gate} {o p : Piped S} {k l l' : K} {old : List ℕ} (how : FeedEnding) (answer : Poll (Result Bool DataError)) (at end n : ℕ) (buf : List ℕ)
    → Pumps meaning polled sinks written gate (Ready (Ok false)) o p k l old (between at end buf) → at + n ≤ end
    → SinkKeeps (sinks l) (sinks l') → Gains (sinks l) (sinks l') (take n (between at end buf)) → FeedsTo written how l (take n (between at end buf)) l'
    → ((bytes : List ℕ) → Calls polled written gate gave how o.opened.tap p.opened.tap k bytes l' → CallsAs polled written gate answer o.opened.tap p.opened.tap k bytes l') → (answer ≡ Ready (Ok true) → ⊥)
    → Pumps meaning polled sinks written gate answer o p k l' old (between (at + n) end buf)
Pumps-sent {sinks = sinks} {written = written} {k = k} {l = l} {l' = l'} how answer at end n buf p h keeps gains feeds tells goes_on = record {
  follows = p.follows;
  bound = p.bound;
  not_probed = p.not_probed;
  keeps = SinkKeeps-trans p.keeps keeps;
  more = p.more;
  out = p.out ++ take n (between at end buf);
  gained = p.gained;
  moved = p.moved ∙ ap (λ z. p.out ++ z) (between_parts at end n buf h) ∙ sym (append_assoc p.out (take n (between at end buf)) (between (at + n) end buf));
  gains = Gains-trans (sinks k) (sinks l) (sinks l') p.out (take n (between at end buf)) p.gains gains;
  calls = tells (p.out ++ take n (between at end buf)) (p.calls.0, FeedsTo-after written how k l l' p.out (take n (between at end buf)) p.calls.1 feeds);
  unmet = λ full over. absurd (goes_on over);
}

-- what was read is pending, once nothing else is
pub Pumps-read : {S K : Type 0} {meaning : S → Meaning} {polled : Polled S} {sinks : K → SinkMeaning} {written : K → List ℕ → Poll (Result ℕ SinkError) → K → Type 0} {gate : Gate} {o p q : Piped S} {k l : K} {old pending now : List ℕ} (how : Ending) (answer : Poll (Result Bool DataError)) (more : List ℕ)
    → Pumps meaning polled sinks written gate (Ready (Ok false)) o p k l old pending → pending ≡ [] → now ≡ more
    → Follows meaning gate.tripped p.opened q.opened → TakesAtMost meaning q.opened q.opened.limit → q.probed ≡ false → Gained meaning p.opened q.opened more → ByGate polled gate how p.opened.tap q.opened.tap
    → (q.opened.limit ≤ q.opened.given → answer ≡ Ready (Ok true) → ByGate polled gate gave p.opened.tap q.opened.tap)
    → ((bytes : List ℕ) → Calls polled written gate how (Ready (Ok tt)) o.opened.tap q.opened.tap k bytes l → CallsAs polled written gate answer o.opened.tap q.opened.tap k bytes l)
    → Pumps meaning polled sinks written gate answer o q k l old now
Pumps-read {polled = polled} {gate = gate} {o = o} {p = p} {q = q} {old = old} how answer more d none now f bound off gained asks unmet tells = record {
  follows = Follows-trans d.follows f;
  bound = bound;
  not_probed = off;
  keeps = d.keeps;
  more = d.more ++ more;
  out = d.out;
  gained = Gained-trans d.follows d.gained gained;
  moved = sym (append_assoc old d.more more) ∙ ap (λ z. z ++ more) (d.moved ∙ ap (λ z. d.out ++ z) none ∙ append-nil d.out) ∙ ap (λ z. d.out ++ z) (sym now);
  gains = d.gains;
  calls = tells d.out (ByGate-trans polled gate how o.opened.tap p.opened.tap q.opened.tap d.calls.0 asks, d.calls.1);
  unmet = λ full over. (ByGate-trans polled gate gave o.opened.tap p.opened.tap q.opened.tap d.calls.0 (unmet full over), d.calls.1);
}

pub SendErr-source : {S K : Type 0} (meaning : S → Meaning) (sinks : K → SinkMeaning) (e : SourceError) (o p : Opened S) (k l : K) → TapErrs meaning e o.tap p.tap → SendErr meaning sinks o p k l (data_error_of e)
SendErr-source meaning sinks source_error.SourceFault o p k l h = h
SendErr-source meaning sinks source_error.Gone o p k l h = h
SendErr-source meaning sinks source_error.TimedOut o p k l h = h

pub SendErr-sink : {S K : Type 0} (meaning : S → Meaning) (sinks : K → SinkMeaning) (e : SinkError) (o p : Opened S) (k l : K) → SinkErrs e (sinks k) (sinks l) → SendErr meaning sinks o p k l (sink_error_of e)
SendErr-sink meaning sinks sink_error.SinkFault o p k l h = h
SendErr-sink meaning sinks sink_error.NoMemory o p k l h = tt

-- what the sink has gained is the first part of the body
pub Sends-of : {S K : Type 0} (meaning : S → Meaning) (sinks : K → SinkMeaning) (o : Opened S) (fed : Fed K) (from : ℕ) (pending : List ℕ) (n : ℕ) → SentOf meaning sinks o fed from pending → o.given ≤ o.limit → n ≡ o.given - from - length pending → Sends meaning sinks o fed from n
Sends-of meaning sinks o fed from pending n s l e =
    let out = s.0 in
    let count = s.1.count in
    let long : length out ≡ n = omega (arith, count, e, length-append out pending) in (
      out,
      long,
      s.2,
      λ b t.
          let all = s.1.bytes b t in
          let first : out ≡ take (length out) (drop from b) = sym (take_at out pending (length out) refl) ∙ ap (take (length out)) all ∙ take-take (length out) (length (out ++ pending)) (drop from b) (omega (arith, length-append out pending)) in
          let room : o.limit ≡ from + (o.limit - from) = omega (arith, count, l, length-append out pending) in
          let into : drop from (take o.limit b) ≡ take (o.limit - from) (drop from b) = ap (λ i. drop from (take i b)) room ∙ drop-take from (o.limit - from) b in
          first ∙ sym (take-take (length out) (o.limit - from) (drop from b) (omega (arith, count, l, length-append out pending))) ∙ ap (take (length out)) (sym into) ∙ ap (λ i. take i (drop from (take o.limit b))) long,
    )

pub between-none : (at end : ℕ) (buf : List ℕ) → end ≤ at → between at end buf ≡ []
between-none at end buf h = let none : end - at ≡ 0 = omega (arith, h) in ap (λ i. take i (drop at buf)) none

-- from the front on
pub between-front : (k : ℕ) (buf : List ℕ) → between 0 k buf ≡ take k buf
between-front k buf = let all : k - 0 ≡ k = omega arith in ap (λ i. take i buf) all

-- two buffers of one front
pub between-same : (at end : ℕ) (v w : List ℕ) → at ≤ end → take end v ≡ take end w → between at end v ≡ between at end w
between-same at end v w h e =
    let size : end ≡ at + (end - at) = omega (arith, h) in
    sym (drop-take at (end - at) v) ∙ ap (drop at) (ap (λ i. take i v) (sym size) ∙ e ∙ ap (λ i. take i w) size) ∙ drop-take at (end - at) w

-- the bytes read since the sender was made
gathered_pumped : {S K : Type 0} {meaning : S → Meaning} {polled : Polled S} {sinks : K → SinkMeaning} {written : K → List ℕ → Poll (Result ℕ SinkError) → K → Type 0} {gate : Gate} {answer : Poll (Result Bool DataError)} {o p : Piped S} {k l : K} {old new : List ℕ} (from : ℕ) (out : List ℕ)
    → Gathered meaning o.opened from (out ++ old) → (q : Pumps meaning polled sinks written gate answer o p k l old new) → Gathered meaning p.opened from ((out ++ q.out) ++ new)
gathered_pumped {old = old} {new = new} from out s q =
    let same : (out ++ q.out) ++ new ≡ (out ++ old) ++ q.more = append_assoc out q.out new ∙ ap (λ z. out ++ z) (sym q.moved) ∙ sym (append_assoc out old q.more) in
    rw same (Gathered-more s q.follows q.gained)

-- sending on
pub SentOf-pumped : {S K : Type 0} (meaning : S → Meaning) (polled : Polled S) (sinks : K → SinkMeaning) (written : K → List ℕ → Poll (Result ℕ SinkError) → K → Type 0) (gate : Gate) (answer : Poll (Result Bool DataError)) (o p : Piped S) (k l begun : K) (from : ℕ) (old new : List ℕ) → SentOf meaning sinks o.opened record { now = k; begun = begun } from old
    → Pumps meaning polled sinks written gate answer o p k l old new → SentOf meaning sinks p.opened record { now = l; begun = begun } from new
SentOf-pumped meaning polled sinks written gate answer o p k l begun from old new s q =
    (s.0 ++ q.out, gathered_pumped from s.0 s.1 q, Gains-trans (sinks begun) (sinks k) (sinks l) s.0 q.out s.2 q.gains)

-- a part of the front of a list
part_of_front : (xs ys zs all : List ℕ) → (xs ++ ys) ++ zs ≡ take (length ((xs ++ ys) ++ zs)) all → ys ≡ take (length ys) (drop (length xs) all)
part_of_front xs ys zs all e =
    let first : xs ++ ys ≡ take (length (xs ++ ys)) all = sym (take_at (xs ++ ys) zs (length (xs ++ ys)) refl) ∙ ap (take (length (xs ++ ys))) e ∙ take-take (length (xs ++ ys)) (length ((xs ++ ys) ++ zs)) all (omega (arith, length-append (xs ++ ys) zs)) in
    sym (drop-append_seam xs ys) ∙ ap (drop (length xs)) (first ∙ ap (λ i. take i all) (length-append xs ys)) ∙ drop-take (length xs) (length ys) all

-- what was sent are the next bytes of the body
pub SendsNext-pumped : {S K : Type 0} (meaning : S → Meaning) (polled : Polled S) (sinks : K → SinkMeaning) (written : K → List ℕ → Poll (Result ℕ SinkError) → K → Type 0) (gate : Gate) (answer told : Poll (Result Bool DataError)) (o p : Piped S) (k l begun : K) (from : ℕ) (old new : List ℕ) → SentOf meaning sinks o.opened record { now = k; begun = begun } from old
    → (q : Pumps meaning polled sinks written gate answer o p k l old new) → CallsAs polled written gate told o.opened.tap p.opened.tap k q.out l
    → SendsNext meaning polled written gate told o.opened p.opened k l (from + (o.opened.given - (from + length old))) (from + (p.opened.given - (from + length new)))
SendsNext-pumped meaning polled sinks written gate answer told o p k l begun from old new s q calls =
    let after = gathered_pumped from s.0 s.1 q in
    let first : from + (o.opened.given - (from + length old)) ≡ from + length s.0 = omega (arith, s.1.count, length-append s.0 old) in
    record {
      bytes = q.out;
      calls = calls;
      count = omega (arith, first, after.count, length-append s.0 q.out, length-append (s.0 ++ q.out) new);
      are = λ b t. rw first (part_of_front s.0 q.out new (drop from b) (after.bytes b (whole_same q.follows ∙ t)) ∙ ap (take (length q.out)) (drop-drop (length s.0) from b));
    }

-- nothing was sent for want of memory
pub SendsNext-none : {S K : Type 0} (meaning : S → Meaning) (polled : Polled S) (written : K → List ℕ → Poll (Result ℕ SinkError) → K → Type 0) (gate : Gate) (o : Opened S) (k : K) (at : ℕ) → SendsNext meaning polled written gate (Ready (Err error.NoMemory)) o o k k at at
SendsNext-none meaning polled written gate o k at = record {
  bytes = [];
  calls = inl (ByGate-refl polled gate o.tap, Feeds.none);
  count = omega arith;
  are = λ b t. refl;
}

closed_by : {S K : Type 0} (t : Bool) (meaning : S → Meaning) (polled : Polled S) (written : K → List ℕ → Poll (Result ℕ SinkError) → K → Type 0) (gate : Gate) (reads : Poll (Result Bool SourceError)) (answer : Poll (Result Bool DataError)) (o p q : Opened S) (k l : K) (at next : ℕ) → SendsNext meaning polled written gate (Ready (Ok true)) o p k l at next
    → (p.limit ≤ p.given → SendsNext meaning polled written gate (Ready (Ok false)) o p k l at next) → (p.given < p.limit → (q.tap ≡ p.tap) × (reads ≡ Ready (Ok true))) → ByGate polled gate (ending_of reads) p.tap q.tap
    → ((bytes : List ℕ) → Calls polled written gate (ending_of reads) (Ready (Ok tt)) o.tap q.tap k bytes l → CallsAs polled written gate answer o.tap q.tap k bytes l) → nat_le p.limit p.given ≡ t
    → SendsNext meaning polled written gate answer o q k l at next
closed_by true meaning polled written gate reads answer o p q k l at next s unmet below asks tells e =
    let first = unmet (leb-true p.limit p.given e) in
    record {
      bytes = first.bytes;
      calls = tells first.bytes (ByGate-trans polled gate (ending_of reads) o.tap p.tap q.tap first.calls.0 asks, first.calls.1);
      count = first.count;
      are = first.are;
    }
closed_by false meaning polled written gate reads answer o p q k l at next s unmet below asks tells e =
    let same = below (leb-false p.limit p.given e) in
    record { bytes = s.bytes; calls = tells s.bytes (rw (same.1, same.0) s.calls); count = s.count; are = s.are }

-- behind all that was sent it is learnt whether there is more; where the end may have been met nothing is read for that
pub SendsNext-closed : {S K : Type 0} (meaning : S → Meaning) (polled : Polled S) (written : K → List ℕ → Poll (Result ℕ SinkError) → K → Type 0) (gate : Gate) (reads : Poll (Result Bool SourceError)) (answer : Poll (Result Bool DataError)) (o p q : Opened S) (k l : K) (at next : ℕ) → SendsNext meaning polled written gate (Ready (Ok true)) o p k l at next
    → (p.limit ≤ p.given → SendsNext meaning polled written gate (Ready (Ok false)) o p k l at next) → (p.given < p.limit → (q.tap ≡ p.tap) × (reads ≡ Ready (Ok true))) → ByGate polled gate (ending_of reads) p.tap q.tap
    → ((bytes : List ℕ) → Calls polled written gate (ending_of reads) (Ready (Ok tt)) o.tap q.tap k bytes l → CallsAs polled written gate answer o.tap q.tap k bytes l)
    → SendsNext meaning polled written gate answer o q k l at next
SendsNext-closed meaning polled written gate reads answer o p q k l at next s unmet below asks tells =
    closed_by (nat_le p.limit p.given) meaning polled written gate reads answer o p q k l at next s unmet below asks tells refl

-- all was sent, once nothing is pending and all up to the limit was read
pub SentAll-of : {S K : Type 0} (meaning : S → Meaning) (sinks : K → SinkMeaning) (o : Opened S) (fed : Fed K) (from : ℕ) (pending : List ℕ) (n : ℕ) → SentOf meaning sinks o fed from pending → o.given ≤ o.limit → n ≡ o.given - from - length pending → pending ≡ [] → IsUsedUp meaning o → SentAll meaning o from n
SentAll-of meaning sinks o fed from pending n s l e none u =
    let count = s.1.count in
    let empty : length pending ≡ 0 = ap length none in
    λ b t.
    let all = cut-gathered s.1 (Follows-refl meaning None o) u l b t in
    omega (arith, count, e, empty, length-append s.0 pending, ap length all)

-- the buffer that is resumed is not empty
pub HasRoom-resumed : (old : Option (Vec ℕ Global)) (v : Vec ℕ Global) → HasRoom old → (old ≡ None → 0 < vec_len v) × (length (items_of old) ≤ vec_len v) → 0 < vec_len v
HasRoom-resumed None v h s = s.0 refl
HasRoom-resumed (Some w) v h s = omega (arith, h, s.1)
