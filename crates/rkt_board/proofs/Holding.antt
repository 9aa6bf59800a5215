-- What is known of listener, clock and handle, over one event more.
use Rattle.std.proofs.Common.{zero, suc, ◌≡◌, ◌<◌, ◌≤◌, ◌+◌, ◌++◌, ℕ, max, Bool, true, false, List, [], ◌∷◌, Option, Some, None, length, refl, ap, ◌∙◌, sym, subst, append_assoc, append-nil, arith}
use Rattle.std.proofs.lemmas.Grind.{common_steps}
use Rattle.std.specs.List.{list_any, AllByRecursion, count_by}
use Rattle.std.specs.Option.{ForSome}
use Rattle.std.specs.declared.snapshot.Snapshot.{Snapshot}
use Rattle.rkt_turn.specs.Shutdown.{Handle}
use Rattle.rkt_link.specs.Asked.{Asked}
use Rattle.rkt_link.specs.Clock.{ClockMeaning, IsWithin, TellsOn}
use Rattle.rkt_link.specs.Link.{LinkMeaning}
use Rattle.rkt_link.specs.Listener.{ListenerMeaning, Faulted, GivesMore, Settled}
use Rattle.rkt_board.proofs.Core.{worded}
use Rattle.rkt_board.proofs.Counting.{is_not}
use Rattle.rkt_board.proofs.Pushes.{any_push, count_push, all_push, after_push, map_push, latest_push, word_old}
use Rattle.rkt_board.specs.After.{AfterFrom}
use Rattle.rkt_board.specs.Board.{Told, SoundAs, TimedIn, Holds}
use Rattle.rkt_board.specs.Events.{is_trip, is_admit, moment_of, latest, admitted, trip_word, InOrder, Ordered}
use Rattle.rkt_board.specs.Records.{events, asked_by, carried, carries, IsOwn, AsksAt, Legal}
use Rattle.rkt_board.specs.Turns.{admit_mark}
use Rattle.rkt_board.specs.declared.board.Initial.{Initial}
use Rattle.rkt_board.specs.declared.board.Outside.{Outside}
use Rattle.rkt_board.specs.declared.history.EventOf.{EventOf}
use Rattle.rkt_board.specs.declared.history.EventOf.TheVariants.{Lift, Trip, Admit, End, Down, Close}
use Rattle.rkt_board.specs.declared.log_record.RecordOf.{RecordOf}

-- a link more was given, which asks this
told_more : (first old new : Option (List Asked)) (asks : List (Option Asked)) (ask : Option Asked) → Told first old asks → GivesMore old ask new → Told first new (asks ++ ask ∷ [])
told_more None old new asks ask t gives = subst (λ (o : Option (List Asked)). GivesMore o ask new) t gives
told_more (Some g) old new asks ask t gives = let more = t.0 in let h : GivesMore (Some (g ++ more)) ask new = subst (λ (o : Option (List Asked)). GivesMore o ask new) t.1 gives in
    (more ++ h.0 ∷ [], h.2 ∙ ap Some (append_assoc g more (h.0 ∷ [])), map_push (λ a. Some a) more h.0 ∙ ap (λ l. l ++ Some h.0 ∷ []) t.2 ∙ ap (λ a. asks ++ a ∷ []) (sym h.1))

-- a count that stands as it stood
pub sound_same : (faulted : Bool) (first old new : ListenerMeaning) → SoundAs faulted first old → new.faults ≡ old.faults → SoundAs faulted first new
sound_same true first old new sound same = (rw same sound.0, sound.1)
sound_same false first old new sound same = same ∙ sound

-- a listener that had not failed, and then fails
pub sound_fault : (faulted : Bool) (first old new : ListenerMeaning) → SoundAs faulted first old → faulted ≡ false → Settled first old → Faulted old new → SoundAs true first new
sound_fault true first old new sound none settled fault = absurd (cc none)
sound_fault false first old new sound none settled fault = (rw (sym sound) fault.0, sym settled.never_faults ∙ fault.1)

-- nothing was given yet
pub told_none : (first : Option (List Asked)) → Told first first []
told_none None = refl
told_none (Some g) = ([], ap Some (sym (append-nil g)), refl)

pub tells_on : (a b c : ClockMeaning) → TellsOn a b → TellsOn b c → TellsOn a c
tells_on a b c one two = record { rises = omega (arith, one.rises, two.rises); window = two.window ∙ one.window }

-- a clock was read
pub tells_this : (old new : ClockMeaning) (moment : ℕ) → old.last ≤ moment → new ≡ record old { last = moment } → TellsOn old new
tells_this old new moment rises is = rw is (record { rises = rises; window = refl })

looked_on : (seen new old x : ℕ) → x ≤ old → (0 < seen → new ≡ old) → (seen ≡ 0 → new ≡ old + 1) → x ≤ new
looked_on zero new old x l again load = let q : new ≡ old + 1 = load refl in omega (arith, l, q)
looked_on (suc n) new old x l again load = let q : new ≡ old = again (omega arith) in omega (arith, l, q)

module _ {C S K : Type 0} where
  module _ (links : K → LinkMeaning) where
    pub carries_other : (ms : List (RecordOf C S K)) (m : RecordOf C S K) → is_admit m.event ≡ false → carries links (ms ++ m ∷ []) ≡ carries links ms
    carries_other [] m other = none_carried m.event (asked_by links m.link) other
      where
        none_carried : (e : EventOf C S K) (a : Option Asked) → is_admit e ≡ false → carried links e a [] ≡ []
        none_carried (Admit n t b) a o = absurd (cc o)
        none_carried (Lift calls) a o = refl
        none_carried (Trip w t) a o = refl
        none_carried (End n x t b) a o = refl
        none_carried (Down calls) a o = refl
        none_carried (Close t) a o = refl
    carries_other (x ∷ xs) m other = ap (carried links x.event (asked_by links x.link)) (carries_other xs m other)

    pub carries_admit : (ms : List (RecordOf C S K)) (m : RecordOf C S K) → is_admit m.event ≡ true → carries links (ms ++ m ∷ []) ≡ carries links ms ++ asked_by links m.link ∷ []
    carries_admit [] m admit = one_carried m.event (asked_by links m.link) admit
      where
        one_carried : (e : EventOf C S K) (a : Option Asked) → is_admit e ≡ true → carried links e a [] ≡ a ∷ []
        one_carried (Admit n t b) a o = refl
        one_carried (Lift calls) a o = absurd (cc o)
        one_carried (Trip w t) a o = absurd (cc o)
        one_carried (End n x t b) a o = absurd (cc o)
        one_carried (Down calls) a o = absurd (cc o)
        one_carried (Close t) a o = absurd (cc o)
    carries_admit (x ∷ xs) m admit = ap (carried links x.event (asked_by links x.link)) (carries_admit xs m admit) ∙ carried_on x.event (asked_by links x.link) (carries links xs) (asked_by links m.link)
      where
        carried_on : (e : EventOf C S K) (a : Option Asked) (rest : List (Option Asked)) (z : Option Asked) → carried links e a (rest ++ z ∷ []) ≡ carried links e a rest ++ z ∷ []
        carried_on (Admit n t b) a rest z = refl
        carried_on (Lift calls) a rest z = refl
        carried_on (Trip w t) a rest z = refl
        carried_on (End n x t b) a rest z = refl
        carried_on (Down calls) a rest z = refl
        carried_on (Close t) a rest z = refl

    -- as many are carried as were admitted
    pub length-carries : (ms : List (RecordOf C S K)) → length (carries links ms) ≡ admitted (events ms)
    length-carries [] = refl
    length-carries (m ∷ ms) = one m.event (asked_by links m.link) (carries links ms) (events ms) (length-carries ms)
      where
        one : (e : EventOf C S K) (a : Option Asked) (rest : List (Option Asked)) (es : List (EventOf C S K)) → length rest ≡ admitted es → length (carried links e a rest) ≡ admitted (e ∷ es)
        one (Admit n t b) a rest es h = grind (arith, common_steps, h)
        one (Lift calls) a rest es h = h
        one (Trip w t) a rest es h = h
        one (End n x t b) a rest es h = h
        one (Down calls) a rest es h = h
        one (Close t) a rest es h = h

    pub legal_push : (cause : List (EventOf C S K) → EventOf C S K → Type 0) (ms : List (RecordOf C S K)) (m : RecordOf C S K) → Legal links cause ms
        → InOrder (events ms) m.event → cause (events ms) m.event → IsOwn m → AsksAt links ms m → Legal links cause (ms ++ m ∷ [])
    legal_push cause ms m l order caused own asks = record {
      ordered = subst (λ es. Ordered es) (sym (map_push (λ m. m.event) ms m)) (after_push InOrder [] (events ms) m.event l.ordered order);
      caused = subst (λ es. AfterFrom cause [] es) (sym (map_push (λ m. m.event) ms m)) (after_push cause [] (events ms) m.event l.caused caused);
      own = all_push IsOwn ms m l.own own;
      asks = after_push (AsksAt links) [] ms m l.asks asks;
    }

module _ {A C S K P L Q : Type 0} (links : K → LinkMeaning) (listeners : L → ListenerMeaning) (clocks : Q → ClockMeaning) where
  -- one event more, which is no Admit
  pub holds_push : (name : Initial A P L Q Handle) (outside : Outside L Q Handle) (ms : List (RecordOf C S K)) (m : RecordOf C S K) → Holds links listeners clocks name outside ms
      → is_admit m.event ≡ false → TimedIn (clocks name.clock.value).window m.event → moment_of m.event ≤ (clocks outside.clock).last
      → (list_any is_trip (events ms ++ m.event ∷ []) ≡ true → outside.handle.seen ≡ trip_word (events ms ++ m.event ∷ []))
      → Holds links listeners clocks name outside (ms ++ m ∷ [])
  holds_push name outside ms m h other timed late seen =
      let es = events ms in
      let e = m.event in
      let now : events (ms ++ m ∷ []) ≡ es ++ e ∷ [] = map_push (λ m. m.event) ms m in
      let same : admitted (events (ms ++ m ∷ [])) ≡ admitted es = ap (count_by is_admit) now ∙ (count_push is_admit es e).1 other in
      record {
        wire = h.wire;
        word = λ t. seen (sym (ap (list_any is_trip) now) ∙ t) ∙ sym (ap trip_word now);
        looked = subst (λ (n : ℕ). name.handle.value.looked + n ≤ outside.handle.looked) (sym same) h.looked;
        still = λ p. ((h.still p).0, same ∙ (h.still p).1);
        told = subst (Told (listeners name.listener.value).given (listeners outside.listener).given) (sym (carries_other links ms m other)) h.told;
        settled = h.settled;
        sound = h.sound;
        ended = h.ended;
        goes_on = h.goes_on;
        offers = h.offers;
        clock = h.clock;
        timed = subst (AllByRecursion (TimedIn (clocks name.clock.value).window)) (sym now) (all_push (TimedIn (clocks name.clock.value).window) es e h.timed timed);
        latest_by = let x : ℕ = latest es in let y : ℕ = moment_of e in let z : ℕ = (clocks outside.clock).last in let p : x ≤ z = h.latest_by in let q : y ≤ z = late in let g : max x y ≤ z = omega (arith, p, q) in subst (λ (n : ℕ). n ≤ z) (sym (ap latest now ∙ latest_push es e)) g;
      }

  -- where a Trip stands before, the handle has seen its word
  pub seen_before : (name : Initial A P L Q Handle) (outside : Outside L Q Handle) (ms : List (RecordOf C S K)) (e : EventOf C S K) → Holds links listeners clocks name outside ms → is_trip e ≡ false
      → list_any is_trip (events ms ++ e ∷ []) ≡ true → outside.handle.seen ≡ trip_word (events ms ++ e ∷ [])
  seen_before name outside ms e h other t =
      let u : list_any is_trip (events ms) ≡ true = grind (arith, common_steps, any_push is_trip (events ms) e, other, t) in
      h.word u ∙ sym (word_old (events ms) e u)

  -- a handle that has seen no word has entered no Trip
  pub untripped : (name : Initial A P L Q Handle) (outside : Outside L Q Handle) (ms : List (RecordOf C S K)) → Holds links listeners clocks name outside ms → Ordered (events ms)
      → outside.handle.seen ≡ 0 → list_any is_trip (events ms) ≡ false
  untripped name outside ms h ordered unseen =
      is_not (list_any is_trip (events ms)) refl (λ t. let x : ℕ = trip_word (events ms) in let p : 0 < x = worded (events ms) ordered t in let q : outside.handle.seen ≡ x = h.word t in absurd (omega (arith, p, q, unseen)))

  -- an Admit of a link that the listener gave
  pub holds_admit : (name : Initial A P L Q Handle) (outside : Outside L Q Handle) (listener : L) (ms : List (RecordOf C S K)) (by number moment : ℕ) (copy : Snapshot K) → Holds links listeners clocks name outside ms → Ordered (events ms)
      → outside.handle.seen ≡ 0 → name.handle.value.looked + admitted (events ms) < outside.handle.looked → outside.over ≡ false
      → moment ≤ (clocks outside.clock).last → IsWithin (clocks name.clock.value).window moment
      → GivesMore (listeners outside.listener).given (links copy.value).asked (listeners listener).given → Settled (listeners outside.listener) (listeners listener) → (listeners listener).faults ≡ (listeners outside.listener).faults
      → (listeners listener).ended ≡ (listeners outside.listener).ended
      → Holds links listeners clocks name (record { listener = listener; clock = outside.clock; handle = outside.handle; over = outside.over; faulted = outside.faulted }) (ms ++ admit_mark by number moment copy ∷ [])
  holds_admit name outside listener ms by number moment copy h ordered unseen looked ongoing late within gives settled same goes_on =
      let es = events ms in
      let e : EventOf C S K = Admit number moment by in
      let m : RecordOf C S K = admit_mark by number moment copy in
      let now : events (ms ++ m ∷ []) ≡ es ++ e ∷ [] = map_push (λ m. m.event) ms m in
      let none = untripped name outside ms h ordered unseen in
      let counted : admitted (events (ms ++ m ∷ [])) ≡ admitted es + 1 = ap (count_by is_admit) now ∙ (count_push is_admit es e).0 refl in
      record {
        wire = h.wire;
        word = λ t. absurd (grind (arith, common_steps, any_push is_trip es e, none, sym (ap (list_any is_trip) now) ∙ t));
        looked = let x : ℕ = admitted (events (ms ++ m ∷ [])) in let y : ℕ = admitted es in let q : x ≡ y + 1 = counted in omega (arith, q, looked);
        still = λ p. absurd (omega (arith, p, (h.still p).0, unseen));
        told = subst (Told (listeners name.listener.value).given (listeners listener).given) (sym (carries_admit links ms m refl))
            (told_more (listeners name.listener.value).given (listeners outside.listener).given (listeners listener).given (carries links ms) (links copy.value).asked h.told gives);
        settled = record { offers = settled.offers ∙ h.settled.offers; never_faults = settled.never_faults ∙ h.settled.never_faults };
        sound = sound_same outside.faulted (listeners name.listener.value) (listeners outside.listener) (listeners listener) h.sound same;
        ended = λ o. absurd (cc (o, ongoing));
        goes_on = λ o. goes_on ∙ h.goes_on o;
        offers = λ o. absurd (cc (o, ongoing));
        clock = h.clock;
        timed = subst (AllByRecursion (TimedIn (clocks name.clock.value).window)) (sym now) (all_push (TimedIn (clocks name.clock.value).window) es e h.timed within);
        latest_by = let x : ℕ = latest es in let z : ℕ = (clocks outside.clock).last in let p : x ≤ z = h.latest_by in let g : max x moment ≤ z = omega (arith, p, late) in subst (λ (n : ℕ). n ≤ z) (sym (ap latest now ∙ latest_push es e)) g;
      }

  -- the clock is read
  pub holds_clock : (name : Initial A P L Q Handle) (outside : Outside L Q Handle) (clock : Q) (ms : List (RecordOf C S K)) → Holds links listeners clocks name outside ms → TellsOn (clocks outside.clock) (clocks clock)
      → Holds links listeners clocks name (record { listener = outside.listener; clock = clock; handle = outside.handle; over = outside.over; faulted = outside.faulted }) ms
  holds_clock name outside clock ms h on = record {
    wire = h.wire;
    word = h.word;
    looked = h.looked;
    still = h.still;
    told = h.told;
    settled = h.settled;
    sound = h.sound;
    ended = h.ended;
    goes_on = h.goes_on;
    offers = h.offers;
    clock = tells_on (clocks name.clock.value) (clocks outside.clock) (clocks clock) h.clock on;
    timed = h.timed;
    latest_by = omega (arith, h.latest_by, on.rises);
  }

  -- the listener is polled, and gives nothing
  pub holds_listener : (name : Initial A P L Q Handle) (outside : Outside L Q Handle) (listener : L) (over faulted : Bool) (ms : List (RecordOf C S K)) → Holds links listeners clocks name outside ms
      → (listeners listener).given ≡ (listeners outside.listener).given → Settled (listeners outside.listener) (listeners listener) → SoundAs faulted (listeners name.listener.value) (listeners listener)
      → (over ≡ true → ((listeners listener).ended ≡ true) × ForSome (listeners outside.listener).offers (λ all. (listeners outside.listener).given ≡ Some all))
      → (over ≡ false → (listeners listener).ended ≡ (listeners name.listener.value).ended)
      → Holds links listeners clocks name (record { listener = listener; clock = outside.clock; handle = outside.handle; over = over; faulted = faulted }) ms
  holds_listener name outside listener over faulted ms h same settled sound ends goes_on = record {
    wire = h.wire;
    word = h.word;
    looked = h.looked;
    still = h.still;
    told = subst (λ (given : Option (List Asked)). Told (listeners name.listener.value).given given (carries links ms)) (sym same) h.told;
    settled = record { offers = settled.offers ∙ h.settled.offers; never_faults = settled.never_faults ∙ h.settled.never_faults };
    sound = sound;
    ended = λ o. (ends o).0;
    goes_on = goes_on;
    offers = λ o all is. same ∙ (ends o).1 all (h.settled.offers ∙ is);
    clock = h.clock;
    timed = h.timed;
    latest_by = h.latest_by;
  }

  -- the handle is another one, of the same wire, that has looked no less; a word that was seen stays
  pub holds_handle : (name : Initial A P L Q Handle) (outside : Outside L Q Handle) (handle : Handle) (ms : List (RecordOf C S K)) → Holds links listeners clocks name outside ms → Ordered (events ms)
      → handle.wire ≡ outside.handle.wire → outside.handle.looked ≤ handle.looked → (0 < outside.handle.seen → handle.seen ≡ outside.handle.seen)
      → Holds links listeners clocks name (record { listener = outside.listener; clock = outside.clock; handle = handle; over = outside.over; faulted = outside.faulted }) ms
  holds_handle name outside handle ms h ordered wire looked again = record {
    wire = wire ∙ h.wire;
    word = λ t. let x : ℕ = trip_word (events ms) in let p : 0 < x = worded (events ms) ordered t in let q : outside.handle.seen ≡ x = h.word t in again (omega (arith, p, q)) ∙ q;
    looked = let x : ℕ = name.handle.value.looked + admitted (events ms) in let l : x ≤ outside.handle.looked = h.looked in let g : x ≤ handle.looked = omega (arith, l, looked) in g;
    still = λ p. let q = h.still p in (again (omega (arith, p, q.0)) ∙ q.0, q.1);
    told = h.told;
    settled = h.settled;
    sound = h.sound;
    ended = h.ended;
    goes_on = h.goes_on;
    offers = h.offers;
    clock = h.clock;
    timed = h.timed;
    latest_by = h.latest_by;
  }
