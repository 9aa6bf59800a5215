-- The source behind a body, over several reads.
use Rattle.std.proofs.Common.{◌≡◌, ◌⊎◌, ℕ, zero, suc, ◌≤◌, ◌<◌, ◌∙◌, IsTrue, Bool, true, false, List, length, take, drop, Option, None, Some, Result, Ok, Err, inl, inr, ⊎_elim, refl, sym, ap, arith, length-drop, length-take, take_all, take-append-drop, take-take}
use Rattle.std.specs.Prelude.{◌++◌, ◌-◌, min, nat_le, option_map}
use Rattle.std.proofs.lemmas.Bool.{false≢true, leb-false, leb-true}
use Rattle.rkt_base.specs.declared.poll.Poll.{Poll}
use Rattle.rkt_base.specs.declared.poll.Poll.TheVariants.{Ready, Pending}
use Rattle.rkt_data.specs.Body.{Body, EndSeen, FrontOf, HoldsFront, Peeked, PeekedPulls, PeeksByGate, opened_tap}
use Rattle.rkt_data.specs.Gathering.{cause_of, data_error_of}
use Rattle.rkt_data.specs.Stream.{AsksOnce, DrawnBy, Opened, room_for}
use Rattle.rkt_data.specs.declared.error.DataError.{DataError}
use Rattle.rkt_data.specs.declared.counted_source.Stop.{Stop}
use Rattle.rkt_data.specs.declared.counted_source.Stop.TheVariants as stop
use Rattle.rkt_data.specs.declared.counted_source.CountedSource.{CountedSource}
use Rattle.rkt_source.specs.Source.{Meaning, Keeps, Errs, Polled}
use Rattle.rkt_data.specs.CountedSource.{Tapped, Polls, PollsBefore, PollsTo, ByGate, AsksTap, Ending, gave, ending_of, ending_at, SameTap, TapErrs, TapWaits, Gave, ToppedUp, body, tapped}
use Rattle.rkt_source.specs.declared.source.Gate.{Gate}
use Rattle.rkt_source.specs.declared.source.SourceError.{SourceError}
use Rattle.rkt_source.specs.declared.source.SourceError.TheVariants.{SourceFault, Gone, TimedOut}
use Rattle.rkt_source.proofs.Sources.{Keeps-refl, Keeps-trans, mapped}

pub Polls-trans : {S : Type 0} {polled : Polled S} {gate : Gate} {s t u : S} → Polls polled gate s t → Polls polled gate t u → Polls polled gate s u
Polls-trans p Polls.none = p
Polls-trans p (Polls.more q some r) = Polls.more (Polls-trans p q) some r

-- behind reads that gave bytes
before_after : {S : Type 0} (polled : Polled S) (gate : Gate) (answer : Poll (Result ℕ SourceError)) (s t u : S) → Polls polled gate s t → PollsBefore polled gate answer t u → PollsBefore polled gate answer s u
before_after polled gate answer s t u p q = (q.0, Polls-trans p q.1, q.2)

pub PollsTo-after : {S : Type 0} (polled : Polled S) (gate : Gate) (how : Ending) (s t u : S) → Polls polled gate s t → PollsTo polled gate how t u → PollsTo polled gate how s u
PollsTo-after polled gate Pending s t u p q = before_after polled gate Pending s t u p q
PollsTo-after polled gate (Ready (Ok false)) s t u p q = Polls-trans p q
PollsTo-after polled gate (Ready (Ok true)) s t u p q = ⊎_elim (λ more. inl (Polls-trans p more)) (λ end. inr (before_after polled gate (Ready (Ok 0)) s t u p end)) q
PollsTo-after polled gate (Ready (Err e)) s t u p q = before_after polled gate (Ready (Err e)) s t u p q

pub ByGate-refl : {S : Type 0} (polled : Polled S) (gate : Gate) (a : Option (Tapped S)) → ByGate polled gate gave a a
ByGate-refl polled gate None = tt
ByGate-refl polled gate (Some a) = Polls.none

pub ByGate-left : {S : Type 0} (polled : Polled S) (gate : Gate) (a b : Option (Tapped S)) → b ≡ a → ByGate polled gate gave a b
ByGate-left polled gate a b same = rw same (ByGate-refl polled gate a)

-- reads that gave bytes, whether the end may have been met or not
pub ByGate-over : {S : Type 0} (polled : Polled S) (gate : Gate) (over : Bool) (a b : Option (Tapped S)) → ByGate polled gate gave a b → ByGate polled gate (Ready (Ok over)) a b
ByGate-over polled gate false a b p = p
ByGate-over polled gate true None None p = tt
ByGate-over polled gate true None (Some b) p = absurd p
ByGate-over polled gate true (Some a) None p = absurd p
ByGate-over polled gate true (Some a) (Some b) p = inl p

pub ByGate-trans : {S : Type 0} (polled : Polled S) (gate : Gate) (how : Ending) (a b c : Option (Tapped S)) → ByGate polled gate gave a b → ByGate polled gate how b c → ByGate polled gate how a c
ByGate-trans polled gate how None None c p q = q
ByGate-trans polled gate how None (Some b) c p q = absurd p
ByGate-trans polled gate how (Some a) None c p q = absurd p
ByGate-trans polled gate how (Some a) (Some b) None p q = absurd q
ByGate-trans polled gate how (Some a) (Some b) (Some c) p q = PollsTo-after polled gate how a.now b.now c.now p q

-- one read
pub PollsTo-read : {S : Type 0} (polled : Polled S) (gate : Gate) (room : ℕ) (answer : Poll (Result ℕ SourceError)) (s t : S) → 0 < room → polled s gate room answer t → PollsTo polled gate (ending_of answer) s t
PollsTo-read polled gate room Pending s t some h = (s, Polls.none, (room, some, h))
PollsTo-read polled gate room (Ready (Ok zero)) s t some h = inr (s, Polls.none, (room, some, h))
PollsTo-read polled gate room (Ready (Ok (suc n))) s t some h = inl (Polls.more {n = suc n} Polls.none (omega arith) (room, some, h))
PollsTo-read polled gate room (Ready (Err e)) s t some h = (s, Polls.none, (room, some, h))

-- one read that gave bytes
pub PollsTo-gave : {S : Type 0} (polled : Polled S) (gate : Gate) (room n : ℕ) (s t : S) → 0 < room → 0 < n → polled s gate room (Ready (Ok n)) t → PollsTo polled gate gave s t
PollsTo-gave polled gate room n s t some more h = Polls.more Polls.none more (room, some, h)

tap_read : {S : Type 0} (polled : Polled S) (gate : Gate) (room : ℕ) (answer : Poll (Result ℕ SourceError)) (a b : Option (Tapped S)) → 0 < room → AsksTap polled gate room answer a b → ByGate polled gate (ending_of answer) a b
tap_read polled gate room answer None None some h = tt
tap_read polled gate room answer None (Some b) some h = absurd h
tap_read polled gate room answer (Some a) None some h = absurd h
tap_read polled gate room answer (Some a) (Some b) some h = PollsTo-read polled gate room answer a.now b.now some h

tap_gave : {S : Type 0} (polled : Polled S) (gate : Gate) (room n : ℕ) (a b : Option (Tapped S)) → 0 < room → 0 < n → AsksTap polled gate room (Ready (Ok n)) a b → ByGate polled gate gave a b
tap_gave polled gate room n None None some more h = tt
tap_gave polled gate room n None (Some b) some more h = absurd h
tap_gave polled gate room n (Some a) None some more h = absurd h
tap_gave polled gate room n (Some a) (Some b) some more h = PollsTo-gave polled gate room n a.now b.now some more h

-- a read of an opened body has left its source alone, or asked it
asked_by : {S : Type 0} (t : Bool) (polled : Polled S) (gate : Gate) (room : ℕ) (answer : Poll (Result ℕ SourceError)) (o p : Opened S) → AsksOnce polled gate room answer o p → nat_le (length o.front) o.given ≡ t
    → ((p.tap ≡ o.tap) × ((n : ℕ) × (answer ≡ Ready (Ok n)))) ⊎ ((0 < room) × AsksTap polled gate room answer o.tap p.tap)
asked_by false polled gate room answer o p h e =
    let left = h.held (λ some. leb-false (length o.front) o.given e) in
    inl (left.0, (_, left.1))
asked_by true polled gate zero answer o p h e =
    let left = h.held (λ some. absurd (omega (arith, some))) in
    inl (left.0, (_, left.1))
asked_by true polled gate (suc room) answer o p h e =
    let some : 0 < suc room = omega arith in
    inr (some, h.asks (leb-true (length o.front) o.given e) some)

pub asked : {S : Type 0} (polled : Polled S) (gate : Gate) (room : ℕ) (answer : Poll (Result ℕ SourceError)) (o p : Opened S) → AsksOnce polled gate room answer o p
    → ((p.tap ≡ o.tap) × ((n : ℕ) × (answer ≡ Ready (Ok n)))) ⊎ ((0 < room) × AsksTap polled gate room answer o.tap p.tap)
asked polled gate room answer o p h = asked_by (nat_le (length o.front) o.given) polled gate room answer o p h refl

pub ByGate-once : {S : Type 0} (polled : Polled S) (gate : Gate) (room : ℕ) (answer : Poll (Result ℕ SourceError)) (o p : Opened S) → AsksOnce polled gate room answer o p → ByGate polled gate (ending_of answer) o.tap p.tap
ByGate-once polled gate room answer o p h =
    ⊎_elim
    (λ left. rw left.1.1 (ByGate-over polled gate true o.tap p.tap (ByGate-left polled gate o.tap p.tap left.0)))
    (λ read. tap_read polled gate room answer o.tap p.tap read.0 read.1)
    (asked polled gate room answer o p h)

pub ByGate-gave : {S : Type 0} (polled : Polled S) (gate : Gate) (room n : ℕ) (o p : Opened S) → 0 < n → AsksOnce polled gate room (Ready (Ok n)) o p → ByGate polled gate gave o.tap p.tap
ByGate-gave polled gate room n o p more h =
    ⊎_elim
    (λ left. ByGate-left polled gate o.tap p.tap left.0)
    (λ read. tap_gave polled gate room n o.tap p.tap read.0 more read.1)
    (asked polled gate room (Ready (Ok n)) o p h)

-- where all up to the limit was given there is no room, and nothing is read
pub ByGate-unmet : {S : Type 0} (polled : Polled S) (gate : Gate) (size : ℕ) (answer : Poll (Result ℕ SourceError)) (o p : Opened S) → AsksOnce polled gate (room_for o size) answer o p → p.given ≡ o.given → p.limit ≡ o.limit → p.limit ≤ p.given
    → ByGate polled gate gave o.tap p.tap
ByGate-unmet polled gate size answer o p h same limit full = ByGate-left polled gate o.tap p.tap (h.held (λ some. absurd (omega (arith, some, same, limit, full)))).0

-- what was held was given, and the source was left alone
pub asks_held : {S : Type 0} (polled : Polled S) (gate : Gate) (room n : ℕ) (o p : Opened S) → p.tap ≡ o.tap → n ≡ min room (length o.front - o.given) → (0 < room → o.given < length o.front) → AsksOnce polled gate room (Ready (Ok n)) o p
asks_held polled gate room n o p same is still = record { held = λ h. (same, ap (λ (k : ℕ). Ready (Ok k)) is); asks = λ all some. let less = still some in absurd (omega (arith, all, less)) }

-- the source was asked
pub asks_source : {S : Type 0} (polled : Polled S) (gate : Gate) (room : ℕ) (answer : Poll (Result ℕ SourceError)) (o p : Opened S) → length o.front ≤ o.given → 0 < room → AsksTap polled gate room answer o.tap p.tap → AsksOnce polled gate room answer o p
asks_source polled gate room answer o p all some h = record { held = λ still. let less = still some in absurd (omega (arith, all, less)); asks = λ _ _. h }

-- an error of the source is the cause of the one that is answered
pub ByGate-caused : {S : Type 0} (polled : Polled S) (gate : Gate) (e : SourceError) (d : DataError) (a b : Option (Tapped S)) → d ≡ data_error_of e → ByGate polled gate (Ready (Err e)) a b → ByGate polled gate (Ready (cause_of d)) a b
ByGate-caused polled gate SourceFault d a b is h = rw is h
ByGate-caused polled gate Gone d a b is h = rw is h
ByGate-caused polled gate TimedOut d a b is h = rw is h

-- the end was met
abbrev pub is_end : Stop → Bool
is_end stop.End = true
is_end _ = false

-- a peek that has stopped, and has found the end only where the body is complete
pub PeeksByGate-stopped : {S : Type 0} (polled : Polled S) (gate : Gate) (s : Stop) (answer : Poll (Unit {0})) (t u : Tapped S) (old new : List ℕ) (a b : Bool) → b ≡ is_end s → (s ≡ stop.Waiting → answer ≡ Pending) → ((s ≡ stop.Waiting → ⊥) → answer ≡ Ready tt) → PollsTo polled gate (ending_at s) t.now u.now
    → PeeksByGate polled gate answer record { held = old; tap = Some t; complete = a } record { held = new; tap = Some u; complete = b }
PeeksByGate-stopped polled gate stop.Full answer t u old new a b is waits ready h = rw (ready (λ e. absurd (cc)), is) (inl h)
PeeksByGate-stopped polled gate stop.End answer t u old new a b is waits ready h = rw (ready (λ e. absurd (cc)), is) (inl h)
PeeksByGate-stopped polled gate (stop.Failed e) answer t u old new a b is waits ready h = rw (ready (λ z. absurd (cc))) (inr (e, h))
PeeksByGate-stopped polled gate stop.Waiting answer t u old new a b is waits ready h = rw (waits refl) h

-- one that left the body as it was
pub PeeksByGate-alone : {S : Type 0} (polled : Polled S) (gate : Gate) (b : Body S) → PeeksByGate {X = Unit {0}} polled gate (Ready tt) b b
PeeksByGate-alone polled gate b = inl (ByGate-over polled gate b.complete b.tap b.tap (ByGate-refl polled gate b.tap))

-- what was complete stays so
pub Peeked-complete : {S : Type 0} {meaning : S → Meaning} {trip : Option ℕ} {num : ℕ} {b c : Body S} → Peeked meaning trip num b c → IsTrue b.complete → IsTrue c.complete
Peeked-complete p h = rw (p.alone (inl h)) h

pub SameTap-refl : {S : Type 0} (meaning : S → Meaning) (trip : Option ℕ) (a : Option (Tapped S)) → SameTap meaning trip a a
SameTap-refl meaning trip None = tt
SameTap-refl meaning trip (Some a) = (refl, Keeps-refl trip (meaning a.now))

pub SameTap-trans : {S : Type 0} (meaning : S → Meaning) (trip : Option ℕ) (a b c : Option (Tapped S)) → SameTap meaning trip a b → SameTap meaning trip b c → SameTap meaning trip a c
SameTap-trans meaning trip None None c p q = q
SameTap-trans meaning trip None (Some b) c p q = absurd p
SameTap-trans meaning trip (Some a) None c p q = absurd p
SameTap-trans meaning trip (Some a) (Some b) None p q = absurd q
SameTap-trans meaning trip (Some a) (Some b) (Some c) p q = (q.0 ∙ p.0, Keeps-trans p.1 q.1)

pub body_same : {S : Type 0} (meaning : S → Meaning) (trip : Option ℕ) (front : List ℕ) (a b : Option (Tapped S)) → SameTap meaning trip a b → body meaning front b ≡ body meaning front a
body_same meaning trip front None None p = refl
body_same meaning trip front None (Some b) p = absurd p
body_same meaning trip front (Some a) None p = absurd p
body_same meaning trip front (Some a) (Some b) p = ap (λ s. option_map (drop (meaning s).taken) (meaning s).whole) p.0

errs_after : {trip : Option ℕ} (e : SourceError) (a b c : Meaning) → Keeps trip a b → Errs e b c → Errs e a c
errs_after SourceFault a b c k r = let h = k.faults in (omega (arith, h, r.0), sym k.never_faults ∙ r.1)
errs_after Gone a b c k r = r
errs_after TimedOut a b c k r = r

pub TapErrs-after : {S : Type 0} (meaning : S → Meaning) (trip : Option ℕ) (e : SourceError) (a b c : Option (Tapped S)) → SameTap meaning trip a b → SameTap meaning trip b c → TapErrs meaning e b c → TapErrs meaning e a c
TapErrs-after meaning trip e None None c p q r = r
TapErrs-after meaning trip e None (Some b) c p q r = absurd p
TapErrs-after meaning trip e (Some a) None c p q r = absurd p
TapErrs-after meaning trip e (Some a) (Some b) None p q r = absurd q
TapErrs-after meaning trip e (Some a) (Some b) (Some c) p q r = errs_after e (meaning a.now) (meaning b.now) (meaning c.now) p.1 r

pub TapWaits-after : {S : Type 0} (meaning : S → Meaning) (trip : Option ℕ) (a b c : Option (Tapped S)) → SameTap meaning trip a b → SameTap meaning trip b c → TapWaits meaning b c → TapWaits meaning a c
TapWaits-after meaning trip None None c p q r = r
TapWaits-after meaning trip None (Some b) c p q r = absurd p
TapWaits-after meaning trip (Some a) None c p q r = absurd p
TapWaits-after meaning trip (Some a) (Some b) None p q r = absurd q
TapWaits-after meaning trip (Some a) (Some b) (Some c) p q r = let e = p.1.pendings in let h = p.1.pended in (omega (arith, h, r.0), omega (arith, e, r.1))

-- bytes that a source gave from where it was handed in are the first of the body, and all of it once the end was met
pub front_of_source : {S : Type 0} (meaning : S → Meaning) (held : List ℕ) (complete : Bool) (u : Tapped S) → Gave (meaning u.begun) (meaning u.now) held → EndSeen complete (meaning u.now)
    → FrontOf meaning record { held = held; tap = Some u; complete = complete }
front_of_source meaning held complete u g end = λ x e.
    let m = mapped (meaning u.begun).taken (meaning u.begun).whole x e in
    let told : (meaning u.now).whole ≡ Some m.0 = g.whole ∙ m.1 in
    let first : held ≡ take (length held) x = g.bytes m.0 told ∙ ap (take (length held)) m.2 in
    (first, λ h. first ∙ take_all (length held) x (rw (← m.2) (omega (arith, length-drop (meaning u.begun).taken m.0, end h m.0 told, g.taken))))

pub Peeked-topped : {S : Type 0} (meaning : S → Meaning) (trip : Option ℕ) (num held want now : ℕ) (t u : Tapped S) (old new : List ℕ) (a b : Bool) → want ≤ min num 512 → u.begun ≡ t.begun
    → ToppedUp trip (meaning t.begun) (meaning t.now) (meaning u.now) held want old new now → EndSeen b (meaning u.now) → a ≡ false → (min num 512 ≤ length (take held old) → ⊥)
    → Peeked meaning trip num record { held = take held old; tap = Some t; complete = a } record { held = take now new; tap = Some u; complete = b }
Peeked-topped meaning trip num held want now t u old new a b h same p end reads unheld =
    let gave : Gave (meaning u.begun) (meaning u.now) (take now new) = rw same p.gave in
    record {
      body = ap (λ s. option_map (drop (meaning s).taken) (meaning s).whole) same;
      held = (drop held (take now new), sym (take-append-drop held (take now new)) ∙ ap (λ z. z ++ drop held (take now new)) (take-take held now new p.more ∙ p.front));
      bound = omega (arith, h, p.within, length-take now new);
      tap = (same, p.kept);
      front = front_of_source meaning (take now new) b u gave end;
      taken = λ v e. let is : u ≡ v = cc in rw (← is) gave.taken;
      alone = λ h. absurd (⊎_elim (λ z. false≢true (sym reads ∙ z)) (λ enough. unheld enough) h);
    }

-- what is held is the front of an opened body, which has nothing behind it where the end was met
pub opened_drawn : {S : Type 0} (meaning : S → Meaning) (held : List ℕ) (room limit : ℕ) (complete : Bool) (tap : Option (CountedSource S)) → HoldsFront meaning held room complete (tapped tap) → DrawnBy meaning held limit 0 false (tapped (opened_tap complete tap))
opened_drawn meaning held room limit true tap h = omega arith
opened_drawn meaning held room limit false None h = omega arith
opened_drawn meaning held room limit false (Some t) h =
    let count = h.0.taken in
    record { taken = omega (arith, count); whole = h.0.whole; bytes = h.0.bytes; past = λ p. absurd (false≢true p) }

pub tapped-opened : {S : Type 0} (complete : Bool) (tap : Option (CountedSource S)) → tapped (opened_tap complete tap) ≡ opened_tap complete (tapped tap)
tapped-opened true tap = refl
tapped-opened false tap = refl

-- the bound of a peek and that of a read
pub peeked_pulls : {S : Type 0} (meaning : S → Meaning) → PeekedPulls meaning
peeked_pulls meaning trip p b c o none peeked front pulls = λ t e.
    let held : length c.held ≤ p = let most = peeked.bound in let empty : length b.held ≡ 0 = ap length none in omega (arith, most, empty) in
    let long : length o.front ≡ length c.held = ap length front in
    let most = pulls t e in
    omega (arith, most, held, long)
