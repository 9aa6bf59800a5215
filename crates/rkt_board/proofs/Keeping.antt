-- What each event keeps of a board.
use Rattle.std.proofs.Common.{zero, suc, max, ◌≡◌, ◌<◌, ◌≤◌, ◌+◌, ◌-◌, ◌++◌, ℕ, cond, Bool, true, false, ◌||◌, List, [], ◌∷◌, Option, Some, slice_get, length, vec_capacity, refl, ap, ◌∙◌, sym, subst, arith, length-append}
use Rattle.std.proofs.lemmas.Grind.{common_steps}
use Rattle.std.proofs.lemmas.Bool.Decides.{nat_tests}
use Rattle.std.specs.List.{list_any}
use Rattle.std.specs.Option.{ForSome}
use Rattle.std.specs.declared.alloc.Global.{Global}
use Rattle.std.specs.declared.snapshot.Snapshot.{Snapshot}
use Rattle.std.specs.declared.vec.Vec.{Vec}
use Rattle.rkt_turn.specs.Shutdown.{Handle}
use Rattle.rkt_source.specs.Cancel.{Cancellable}
use Rattle.rkt_source.specs.declared.stage.Stage.TheVariants.{Active}
use Rattle.rkt_link.specs.Clock.{ClockMeaning, IsWithin, TellsOn}
use Rattle.rkt_link.specs.Link.{LinkMeaning, IsFreshLink}
use Rattle.rkt_link.specs.Listener.{ListenerMeaning, GivesMore, Settled}
use Rattle.rkt_board.proofs.Core.{any_by}
use Rattle.rkt_board.proofs.Counting.{or_false, length_events, unclosed_yet, counts_push, counts_end, counts_admit, fresh_number, opens_some, none_open, open_none}
use Rattle.rkt_board.proofs.Holding.{told_none, holds_push, holds_admit, holds_clock, holds_handle, holds_listener, seen_before, untripped, legal_push, carries_admit, length-carries}
use Rattle.rkt_board.proofs.Pushes.{any_push, map_push, word_old, word_new, get_last, lift_push}
use Rattle.rkt_board.specs.Board.{left, IsCutWithin, TimedIn, SoundAs, Holds, Counts, BookOf, Counted, IsBlank, SameBook, BoardAs, Keeps}
use Rattle.rkt_board.specs.Events.{is_trip, is_admit, is_down, is_close, moment_of, latest, lift_calls, admits_by, admits_until, admitted, ends, trip_word, InOrder}
use Rattle.rkt_board.specs.Records.{events, carries, IsOwn, AsksAt, Legal}
use Rattle.rkt_board.specs.Turns.{logged, admit_mark, IsOpen, IsGiven, IsRunOf, MayClose}
use Rattle.rkt_board.specs.declared.history.EntryOf.{EntryOf}
use Rattle.rkt_board.specs.declared.history.EventOf.{EventOf}
use Rattle.rkt_board.specs.declared.history.EventOf.TheVariants.{Lift, Trip, Admit, End, Down, Close}
use Rattle.rkt_board.specs.declared.log_record.RecordOf.{RecordOf}

-- the log with other records, and these numbers
abbrev pub with_marks : {C S K : Type 0} → BookOf C S K → Vec (RecordOf C S K) Global → ℕ → Bool → Bool → Bool → BookOf C S K
with_marks b v opens tripped down closed = record { records = v; history = b.history; admitted = b.admitted; opens = opens; tripped = tripped; down = down; closed = closed }

-- the board with another log
abbrev pub with_book : {A C S K P L Q : Type 0} → BoardAs A C S K P L Q → BookOf C S K → BoardAs A C S K P L Q
with_book s log = record { name = s.name; log = log; outside = s.outside }

-- the board at a later moment
abbrev pub with_clock : {A C S K P L Q : Type 0} → BoardAs A C S K P L Q → Q → BoardAs A C S K P L Q
with_clock s clock = record { name = s.name; log = s.log; outside = record { listener = s.outside.listener; clock = clock; handle = s.outside.handle; over = s.outside.over; faulted = s.outside.faulted } }

-- the board with another handle
abbrev pub with_handle : {A C S K P L Q : Type 0} → BoardAs A C S K P L Q → Handle → BoardAs A C S K P L Q
with_handle s handle = record { name = s.name; log = s.log; outside = record { listener = s.outside.listener; clock = s.outside.clock; handle = handle; over = s.outside.over; faulted = s.outside.faulted } }

pub no_less : (seen old new : ℕ) → (0 < seen → new ≡ old) → (seen ≡ 0 → new ≡ old + 1) → old ≤ new
no_less zero old new again load = omega (arith, load refl)
no_less (suc n) old new again load = omega (arith, again (omega arith))

pub pushed : {X : Type 0} (zs xs ys : List X) (x : X) → zs ≡ xs ++ x ∷ [] → xs ≡ ys → zs ≡ ys ++ x ∷ []
pushed zs xs ys x is same = is ∙ ap (λ l. l ++ x ∷ []) same

room_for_one : (x y z c d : ℕ) → x + z ≤ c → c ≤ d → 1 + y ≤ z → (x + 1) + y ≤ d
room_for_one x y z c d room grows less = omega (arith, room, grows, less)

module _ {C S K : Type 0} where
  -- one event more, for which room was kept
  counted_push : (b : BookOf C S K) (v : Vec (RecordOf C S K) Global) (m : RecordOf C S K) (opens : ℕ) (tripped down closed : Bool) → Counted b
      → v.items ≡ b.records.items ++ m ∷ [] → vec_capacity b.records ≤ vec_capacity v → Counts (b.records.items ++ m ∷ []) b.admitted opens tripped down closed
      → 1 + left opens tripped down closed ≤ left b.opens b.tripped b.down b.closed → Counted (with_marks b v opens tripped down closed)
  counted_push b v m opens tripped down closed k items grows counts less =
      let more : length v.items ≡ length b.records.items + 1 = ap length items ∙ length-append b.records.items (m ∷ []) in
      let l : ℕ = left opens tripped down closed in
      let l0 : ℕ = left b.opens b.tripped b.down b.closed in
      record {
        counts = subst (λ ms. Counts ms b.admitted opens tripped down closed) (sym items) counts;
        room = subst (λ (n : ℕ). n + l ≤ vec_capacity v) (sym more) (room_for_one (length b.records.items) l l0 (vec_capacity b.records) (vec_capacity v) k.room grows less);
        unused = k.unused;
        history_room = subst (λ (n : ℕ). n + l ≤ vec_capacity b.history) (sym more) (room_for_one (length b.records.items) l l0 (vec_capacity b.history) (vec_capacity b.history) k.history_room (omega arith) less);
      }

at_most : (t : Bool) → cond t 0 1 ≤ 1
at_most true = omega arith
at_most false = omega arith

module _ {A C S K P L Q : Type 0} (links : K → LinkMeaning) (listeners : L → ListenerMeaning) (clocks : Q → ClockMeaning)
    (cause : P → Option (ℕ × ℕ) → List (EventOf C S K) → EventOf C S K → Type 0) where
  -- the first event
  pub keeps_lift : (s : BoardAs A C S K P L Q) (b : BookOf C S K) (by : ℕ) (calls : _) → IsBlank b → s.log.history ≡ b.history → s.log.admitted ≡ b.admitted → s.log.opens ≡ b.opens
      → s.log.tripped ≡ b.tripped → s.log.down ≡ b.down → s.log.closed ≡ b.closed → s.log.records.items ≡ logged by (Lift calls) ∷ [] → vec_capacity b.records ≤ vec_capacity s.log.records
      → s.outside.listener ≡ s.name.listener.value → s.outside.clock ≡ s.name.clock.value → s.outside.handle ≡ s.name.handle.value → s.outside.over ≡ false → s.outside.faulted ≡ false → s.name.calls.value ≡ calls
      → cause s.name.served (clocks s.name.clock.value).window [] (Lift calls) → Keeps links listeners clocks cause s
  keeps_lift s b by calls blank history gave opens trip down closed items grows listener clock handle over faulted called caused =
      let ms = s.log.records.items in
      let one : length ms ≡ 1 = ap length items in
      let es : events ms ≡ Lift calls ∷ [] = ap (λ ms. events ms) items in
      let o : s.log.opens ≡ 0 = opens ∙ blank.none_open in
      let l : left s.log.opens s.log.tripped s.log.down s.log.closed ≡ 3 = ap (λ n. left n s.log.tripped s.log.down s.log.closed) o ∙ (ap (λ t. left 0 t s.log.down s.log.closed) (trip ∙ blank.untripped)
      ∙ (ap (λ t. left 0 false t s.log.closed) (down ∙ blank.up) ∙ ap (λ t. left 0 false false t) (closed ∙ blank.unclosed))) in
      record {
        begun = let n : ℕ = length ms in let g : 0 < n = omega (arith, one) in g;
        lifted = ap lift_calls es ∙ sym called;
        holds = record {
          wire = ap (λ h. h.wire) handle;
          word = λ t. absurd (cc (sym (ap (list_any is_trip) es) ∙ t));
          looked = let x : ℕ = s.name.handle.value.looked in let y : ℕ = s.outside.handle.looked in let q : y ≡ x = ap (λ h. h.looked) handle in let a : ℕ = admitted (events ms) in let z : a ≡ 0 = ap admitted es in let g : x + a ≤ y = omega (arith, q, z) in g;
          still = λ p. (ap (λ h. h.seen) handle, ap admitted es);
          told = rw (listener, items) (told_none (listeners s.name.listener.value).given);
          settled = rw listener record { offers = refl; never_faults = refl };
          sound = rw (faulted, listener) refl;
          ended = λ t. absurd (cc (t, over));
          goes_on = λ t. ap (λ l. (listeners l).ended) listener;
          offers = λ t. absurd (cc (t, over));
          clock = rw clock record { rises = omega arith; window = refl };
          timed = rw items (tt, tt);
          latest_by = let x : ℕ = latest (events ms) in let z : x ≡ 0 = ap latest es in let y : ℕ = (clocks s.outside.clock).last in let g : x ≤ y = omega (arith, z) in g;
        };
        counted = record {
          counts = record {
            gave_is = gave ∙ (blank.none_given ∙ sym (ap admitted es));
            open_is = rw (o, gave, blank.none_given) refl;
            tripped_is = trip ∙ (blank.untripped ∙ sym (ap (list_any is_trip) es));
            down_is = down ∙ (blank.up ∙ sym (ap (list_any is_down) es));
            closed_is = closed ∙ (blank.unclosed ∙ sym (ap (list_any is_close) es));
          };
          room = let n : ℕ = length ms in let q : n ≡ 1 = one in let x : ℕ = left s.log.opens s.log.tripped s.log.down s.log.closed in let y : x ≡ 3 = l in let c : 4 ≤ vec_capacity b.records = blank.room in let g : n + x ≤ vec_capacity s.log.records = omega (arith, q, y, c, grows) in g;
          unused = ap (λ v. v.items) history ∙ blank.unused;
          history_room = let n : ℕ = length ms in let q : n ≡ 1 = one in let x : ℕ = left s.log.opens s.log.tripped s.log.down s.log.closed in let y : x ≡ 3 = l in let c : 4 ≤ vec_capacity b.history = blank.history_room in
              let r : vec_capacity s.log.history ≡ vec_capacity b.history = ap (λ v. vec_capacity v) history in let g : n + x ≤ vec_capacity s.log.history = omega (arith, q, y, c, r) in g;
        };
        legal = rw items record { ordered = ((refl, refl), tt); caused = (caused, tt); own = (tt, tt); asks = (tt, tt) };
      }

  pub begun_events : (s : BoardAs A C S K P L Q) → Keeps links listeners clocks cause s → 0 < length (events s.log.records.items)
  begun_events s k = subst (λ (n : ℕ). 0 < n) (sym (length_events s.log.records.items)) k.begun

  -- the Lift still stands first
  lifted_push : (s : BoardAs A C S K P L Q) (v : Vec (RecordOf C S K) Global) (m : RecordOf C S K) → Keeps links listeners clocks cause s
      → v.items ≡ s.log.records.items ++ m ∷ [] → lift_calls (events v.items) ≡ s.name.calls.value
  lifted_push s v m k items = ap (λ ms. lift_calls (events ms)) items ∙ (ap lift_calls (map_push (λ m. m.event) s.log.records.items m) ∙ (lift_push (events s.log.records.items) m.event (begun_events s k) ∙ k.lifted))

  -- one event more, which opens and ends nothing
  pub keeps_push : (s : BoardAs A C S K P L Q) (v : Vec (RecordOf C S K) Global) (m : RecordOf C S K) (tripped down closed : Bool) → Keeps links listeners clocks cause s
      → v.items ≡ s.log.records.items ++ m ∷ [] → vec_capacity s.log.records ≤ vec_capacity v → is_admit m.event ≡ false → ((k : ℕ) → ends k m.event ≡ false)
      → tripped ≡ (s.log.tripped || is_trip m.event) → down ≡ (s.log.down || is_down m.event) → closed ≡ (s.log.closed || is_close m.event)
      → 1 + left s.log.opens tripped down closed ≤ left s.log.opens s.log.tripped s.log.down s.log.closed
      → TimedIn (clocks s.name.clock.value).window m.event → moment_of m.event ≤ (clocks s.outside.clock).last
      → (list_any is_trip (events s.log.records.items ++ m.event ∷ []) ≡ true → s.outside.handle.seen ≡ trip_word (events s.log.records.items ++ m.event ∷ []))
      → InOrder (events s.log.records.items) m.event → cause s.name.served (clocks s.name.clock.value).window (events s.log.records.items) m.event → IsOwn m → AsksAt links s.log.records.items m
      → Keeps links listeners clocks cause (with_book s (with_marks s.log v s.log.opens tripped down closed))
  keeps_push s v m tripped down closed k items grows other none t d l less timed late seen order caused own asks = record {
    begun = let x : ℕ = length v.items in let y : x ≡ length s.log.records.items + 1 = ap length items ∙ length-append s.log.records.items (m ∷ []) in let g : 0 < x = omega (arith, y) in g;
    lifted = lifted_push s v m k items;
    holds = subst (Holds links listeners clocks s.name s.outside) (sym items) (holds_push links listeners clocks s.name s.outside s.log.records.items m k.holds other timed late seen);
    counted = counted_push s.log v m s.log.opens tripped down closed k.counted items grows
        (counts_push s.log.records.items m s.log.admitted s.log.opens s.log.tripped s.log.down s.log.closed tripped down closed k.counted.counts other none t d l) less;
    legal = subst (Legal links (cause s.name.served (clocks s.name.clock.value).window)) (sym items) (legal_push links (cause s.name.served (clocks s.name.clock.value).window) s.log.records.items m k.legal order caused own asks);
  }

  pub keeps_trip : (s : BoardAs A C S K P L Q) (v : Vec (RecordOf C S K) Global) (by word moment : ℕ) → Keeps links listeners clocks cause s
      → v.items ≡ s.log.records.items ++ logged by (Trip word moment) ∷ [] → vec_capacity s.log.records ≤ vec_capacity v → s.log.tripped ≡ false → s.log.closed ≡ false
      → 0 < word → s.outside.handle.seen ≡ word → cause s.name.served (clocks s.name.clock.value).window (events s.log.records.items) (Trip word moment)
      → moment ≡ (clocks s.outside.clock).last → IsWithin (clocks s.name.clock.value).window moment
      → Keeps links listeners clocks cause (with_book s (with_marks s.log v s.log.opens true s.log.down s.log.closed))
  keeps_trip s v by word moment k items grows was unclosed some seen caused now within =
      let es = events s.log.records.items in
      let none : list_any is_trip es ≡ false = sym k.counted.counts.tripped_is ∙ was in
      let ongoing : list_any is_close es ≡ false = sym k.counted.counts.closed_is ∙ unclosed in
      let a : ℕ = (clocks s.outside.clock).last in
      let late : moment ≤ a = omega (arith, now) in
      keeps_push s v (logged by (Trip word moment)) true s.log.down s.log.closed k items grows refl (λ _. refl)
      (ap (λ b. b || true) (sym was)) (or_false s.log.down) (or_false s.log.closed)
      (let x : ℕ = cond s.log.down 0 1 in let y : ℕ = cond s.log.closed 0 1 in let z : ℕ = cond s.log.tripped 0 1 in let q : z ≡ 1 = ap (λ b. cond b 0 1) was in let o : ℕ = s.log.opens in let g : 1 + (o + (0 + (x + y))) ≤ o + (z + (x + y)) = omega (arith, q) in g)
      within late (λ _. seen ∙ sym (word_new es word moment none))
      (ongoing, (begun_events s k, none, some, let b : ℕ = latest es in let p : b ≤ a = k.holds.latest_by in let g : b ≤ moment = omega (arith, now, p) in g))
      caused tt tt

  pub keeps_down : (s : BoardAs A C S K P L Q) (v : Vec (RecordOf C S K) Global) (by : ℕ) (calls : _) → Keeps links listeners clocks cause s
      → v.items ≡ s.log.records.items ++ logged by (Down calls) ∷ [] → vec_capacity s.log.records ≤ vec_capacity v → s.log.tripped ≡ true → s.log.down ≡ false → s.log.closed ≡ false
      → cause s.name.served (clocks s.name.clock.value).window (events s.log.records.items) (Down calls)
      → Keeps links listeners clocks cause (with_book s (with_marks s.log v s.log.opens s.log.tripped true s.log.closed))
  keeps_down s v by calls k items grows tripped was unclosed caused =
      let es = events s.log.records.items in
      let trip : list_any is_trip es ≡ true = sym k.counted.counts.tripped_is ∙ tripped in
      keeps_push s v (logged by (Down calls)) s.log.tripped true s.log.closed k items grows refl (λ _. refl) (or_false s.log.tripped) (ap (λ b. b || true) (sym was)) (or_false s.log.closed)
      (let x : ℕ = cond s.log.tripped 0 1 in let y : ℕ = cond s.log.closed 0 1 in let z : ℕ = cond s.log.down 0 1 in let q : z ≡ 1 = ap (λ b. cond b 0 1) was in let o : ℕ = s.log.opens in let g : 1 + (o + (x + (0 + y))) ≤ o + (x + (z + y)) = omega (arith, q) in g)
      tt (omega arith) (λ _. k.holds.word trip ∙ sym (word_old es (Down calls) trip))
      (sym k.counted.counts.closed_is ∙ unclosed, (trip, sym k.counted.counts.down_is ∙ was)) caused tt tt

  pub keeps_close : (s : BoardAs A C S K P L Q) (v : Vec (RecordOf C S K) Global) (by moment : ℕ) → Keeps links listeners clocks cause s
      → v.items ≡ s.log.records.items ++ logged by (Close moment) ∷ [] → vec_capacity s.log.records ≤ vec_capacity v → s.log.opens ≡ 0 → s.log.down ≡ s.log.tripped → s.log.closed ≡ false
      → cause s.name.served (clocks s.name.clock.value).window (events s.log.records.items) (Close moment)
      → moment ≡ (clocks s.outside.clock).last → IsWithin (clocks s.name.clock.value).window moment
      → Keeps links listeners clocks cause (with_book s (with_marks s.log v s.log.opens s.log.tripped s.log.down true))
  keeps_close s v by moment k items grows none downs unclosed caused now within =
      let es = events s.log.records.items in
      let a : ℕ = (clocks s.outside.clock).last in
      let late : moment ≤ a = omega (arith, now) in
      keeps_push s v (logged by (Close moment)) s.log.tripped s.log.down true k items grows refl (λ _. refl) (or_false s.log.tripped) (or_false s.log.down) (ap (λ b. b || true) (sym unclosed))
      (let x : ℕ = cond s.log.tripped 0 1 in let y : ℕ = cond s.log.down 0 1 in let z : ℕ = cond s.log.closed 0 1 in let q : z ≡ 1 = ap (λ b. cond b 0 1) unclosed in let o : ℕ = s.log.opens in let g : 1 + (o + (x + (y + 0))) ≤ o + (x + (y + z)) = omega (arith, q) in g)
      within late (seen_before links listeners clocks s.name s.outside s.log.records.items (Close moment) k.holds refl) (
        sym k.counted.counts.closed_is ∙ unclosed,
        (
          begun_events s k,
          none_open s.log.records.items s.log.admitted s.log.tripped s.log.down s.log.closed (subst (λ n. Counts s.log.records.items s.log.admitted n s.log.tripped s.log.down s.log.closed) none k.counted.counts) k.legal.ordered,
          sym k.counted.counts.down_is ∙ (downs ∙ k.counted.counts.tripped_is),
          let b : ℕ = latest es in let p : b ≤ a = k.holds.latest_by in let g : b ≤ moment = omega (arith, now, p) in g,
        ),
      )
      caused tt tt

  -- where a number is open, the board counts one
  pub opens_one : (s : BoardAs A C S K P L Q) (by number : ℕ) (ask : _) → Keeps links listeners clocks cause s → IsOpen links s.log.records.items by number ask → 0 < s.log.opens
  opens_one s by number ask k open_at = opens_some s.log.records.items s.log.admitted s.log.opens s.log.tripped s.log.down s.log.closed by number k.counted.counts k.legal.ordered open_at.admitted open_at.unended

  -- and has room for its End
  pub room_some : (s : BoardAs A C S K P L Q) → Keeps links listeners clocks cause s → 0 < s.log.opens → length s.log.records.items < vec_capacity s.log.records
  room_some s k some = let f : ℕ = cond s.log.tripped 0 1 + (cond s.log.down 0 1 + cond s.log.closed 0 1) in let h : length s.log.records.items + (s.log.opens + f) ≤ vec_capacity s.log.records = k.counted.room in omega (arith, h, some)

  pub keeps_end : (s : BoardAs A C S K P L Q) (v : Vec (RecordOf C S K) Global) (by number moment : ℕ) (entry : EntryOf C S K) → Keeps links listeners clocks cause s
      → v.items ≡ s.log.records.items ++ logged by (End number entry moment by) ∷ [] → vec_capacity s.log.records ≤ vec_capacity v
      → IsOpen links s.log.records.items by number (links entry.link.io).asked
      → IsRunOf (clocks s.name.clock.value).window (events s.log.records.items) number entry moment → IsCutWithin (clocks s.name.clock.value).window entry.end
      → cause s.name.served (clocks s.name.clock.value).window (events s.log.records.items) (End number entry moment by)
      → moment ≡ (clocks s.outside.clock).last → IsWithin (clocks s.name.clock.value).window moment
      → Keeps links listeners clocks cause (with_book s (with_marks s.log v (s.log.opens - 1) s.log.tripped s.log.down s.log.closed))
  keeps_end s v by number moment entry k items grows open_at ran cut caused now within =
      let es = events s.log.records.items in
      let e : EventOf C S K = End number entry moment by in
      let m : RecordOf C S K = logged by e in
      let a : ℕ = (clocks s.outside.clock).last in
      let late : moment ≤ a = omega (arith, now) in
      let some : 0 < s.log.opens = opens_one s by number (links entry.link.io).asked k open_at in
      record {
        begun = let x : ℕ = length v.items in let y : x ≡ length s.log.records.items + 1 = ap length items ∙ length-append s.log.records.items (m ∷ []) in let g : 0 < x = omega (arith, y) in g;
        lifted = lifted_push s v m k items;
        holds = subst (Holds links listeners clocks s.name s.outside) (sym items) (holds_push links listeners clocks s.name s.outside s.log.records.items m k.holds refl (within, (λ run is. (ran run is).2), cut) late
            (seen_before links listeners clocks s.name s.outside s.log.records.items e k.holds refl));
        counted = counted_push s.log v m (s.log.opens - 1) s.log.tripped s.log.down s.log.closed k.counted items grows
            (counts_end s.log.records.items s.log.admitted s.log.opens s.log.tripped s.log.down s.log.closed by number moment entry k.counted.counts k.legal.ordered open_at.admitted open_at.unended)
            (let f : ℕ = cond s.log.tripped 0 1 + (cond s.log.down 0 1 + cond s.log.closed 0 1) in let o : ℕ = s.log.opens in let q : 0 < o = some in let g : 1 + ((o - 1) + f) ≤ o + f = omega (arith, q) in g);
        legal = subst (Legal links (cause s.name.served (clocks s.name.clock.value).window)) (sym items) (legal_push links (cause s.name.served (clocks s.name.clock.value).window) s.log.records.items m k.legal (
          unclosed_yet es number k.legal.ordered (any_by number by es open_at.admitted) open_at.unended,
          (open_at.admitted, open_at.unended, let b : ℕ = latest es in let p : b ≤ a = k.holds.latest_by in let g : b ≤ moment = omega (arith, now, p) in g, λ run is. ((ran run is).0, (ran run is).1)),
        )
            caused refl open_at.asks);
      }

  -- the board with one Admit more
  abbrev pub with_admit : BoardAs A C S K P L Q → Vec (RecordOf C S K) Global → L → ℕ → BoardAs A C S K P L Q
  with_admit s v listener next = record {
    name = s.name;
    log = record { records = v; history = s.log.history; admitted = next; opens = s.log.opens + 1; tripped = s.log.tripped; down = s.log.down; closed = s.log.closed };
    outside = record { listener = listener; clock = s.outside.clock; handle = s.outside.handle; over = s.outside.over; faulted = s.outside.faulted };
  }

  -- room for an Admit, an End and what can come anyway
  enough : (s : BoardAs A C S K P L Q) (n capacity : ℕ) → n ≡ length s.log.records.items + 1 → length s.log.records.items + (s.log.opens + 5) ≤ capacity
      → n + left (s.log.opens + 1) s.log.tripped s.log.down s.log.closed ≤ capacity
  enough s n capacity one room =
      let b1 : ℕ = cond s.log.tripped 0 1 in let b2 : ℕ = cond s.log.down 0 1 in let b3 : ℕ = cond s.log.closed 0 1 in
      let l1 : b1 ≤ 1 = at_most s.log.tripped in let l2 : b2 ≤ 1 = at_most s.log.down in let l3 : b3 ≤ 1 = at_most s.log.closed in
      let o : ℕ = s.log.opens in let g : n + ((o + 1) + (b1 + (b2 + b3))) ≤ capacity = omega (arith, one, room, l1, l2, l3) in g

  pub keeps_admit : (s : BoardAs A C S K P L Q) (v : Vec (RecordOf C S K) Global) (listener : L) (next by moment : ℕ) (copy : Snapshot K) → Keeps links listeners clocks cause s
      → v.items ≡ s.log.records.items ++ admit_mark by s.log.admitted moment copy ∷ [] → length s.log.records.items + (s.log.opens + 5) ≤ vec_capacity v
      → length s.log.records.items + (s.log.opens + 5) ≤ vec_capacity s.log.history → next ≡ s.log.admitted + 1
      → s.outside.handle.seen ≡ 0 → s.name.handle.value.looked + admitted (events s.log.records.items) < s.outside.handle.looked → s.log.closed ≡ false → s.outside.over ≡ false
      → cause s.name.served (clocks s.name.clock.value).window (events s.log.records.items) (Admit s.log.admitted moment by)
      → moment ≡ (clocks s.outside.clock).last → IsWithin (clocks s.name.clock.value).window moment
      → GivesMore (listeners s.outside.listener).given (links copy.value).asked (listeners listener).given → Settled (listeners s.outside.listener) (listeners listener) → (listeners listener).faults ≡ (listeners s.outside.listener).faults
      → (listeners listener).ended ≡ (listeners s.outside.listener).ended
      → Keeps links listeners clocks cause (with_admit s v listener next)
  keeps_admit s v listener next by moment copy k items room history_room step unseen looked unclosed ongoing caused now within gives settled same goes_on =
      let es = events s.log.records.items in
      let e : EventOf C S K = Admit s.log.admitted moment by in
      let m : RecordOf C S K = admit_mark by s.log.admitted moment copy in
      let a : ℕ = (clocks s.outside.clock).last in
      let late : moment ≤ a = omega (arith, now) in
      let more : length v.items ≡ length s.log.records.items + 1 = ap length items ∙ length-append s.log.records.items (m ∷ []) in
      record {
        begun = let x : ℕ = length v.items in let y : x ≡ length s.log.records.items + 1 = more in let g : 0 < x = omega (arith, y) in g;
        lifted = lifted_push s v m k items;
        holds = subst (Holds links listeners clocks s.name (record { listener = listener; clock = s.outside.clock; handle = s.outside.handle; over = s.outside.over; faulted = s.outside.faulted })) (sym items)
            (holds_admit links listeners clocks s.name s.outside listener s.log.records.items by s.log.admitted moment copy k.holds k.legal.ordered unseen looked ongoing late within gives settled same goes_on);
        counted = record {
          counts = subst (λ ms. Counts ms next (s.log.opens + 1) s.log.tripped s.log.down s.log.closed) (sym items)
              (counts_admit s.log.records.items s.log.admitted s.log.opens next s.log.tripped s.log.down s.log.closed by moment copy k.counted.counts k.legal.ordered step);
          room = enough s (length v.items) (vec_capacity v) more room;
          unused = k.counted.unused;
          history_room = enough s (length v.items) (vec_capacity s.log.history) more history_room;
        };
        legal = subst (Legal links (cause s.name.served (clocks s.name.clock.value).window)) (sym items) (legal_push links (cause s.name.served (clocks s.name.clock.value).window) s.log.records.items m k.legal (
          sym k.counted.counts.closed_is ∙ unclosed,
          (begun_events s k, untripped links listeners clocks s.name s.outside s.log.records.items k.holds k.legal.ordered unseen, k.counted.counts.gave_is, let b : ℕ = latest es in let p : b ≤ a = k.holds.latest_by in let g : b ≤ moment = omega (arith, now, p) in g),
        )
            caused refl tt);
      }

  -- the clock is read
  pub keeps_clock : (s : BoardAs A C S K P L Q) (clock : Q) → Keeps links listeners clocks cause s → TellsOn (clocks s.outside.clock) (clocks clock) → Keeps links listeners clocks cause (with_clock s clock)
  keeps_clock s clock k on = record { begun = k.begun; lifted = k.lifted; holds = holds_clock links listeners clocks s.name s.outside clock s.log.records.items k.holds on; counted = k.counted; legal = k.legal }

  -- the handle has looked, or another one was taken in
  pub keeps_handle : (s : BoardAs A C S K P L Q) (handle : Handle) → Keeps links listeners clocks cause s
      → handle.wire ≡ s.outside.handle.wire → s.outside.handle.looked ≤ handle.looked → (0 < s.outside.handle.seen → handle.seen ≡ s.outside.handle.seen)
      → Keeps links listeners clocks cause (with_handle s handle)
  keeps_handle s handle k wire looked again = record { begun = k.begun; lifted = k.lifted; holds = holds_handle links listeners clocks s.name s.outside handle s.log.records.items k.holds k.legal.ordered wire looked again; counted = k.counted; legal = k.legal }

  -- the same log, with more room
  pub keeps_room : (s : BoardAs A C S K P L Q) (b : BookOf C S K) → Keeps links listeners clocks cause s → SameBook s.log b → Keeps links listeners clocks cause (with_book s b)
  keeps_room s b k same =
      let l : left b.opens b.tripped b.down b.closed ≡ left s.log.opens s.log.tripped s.log.down s.log.closed = rw (same.opens, same.tripped, same.down, same.closed) refl in
      let n : length b.records.items ≡ length s.log.records.items = ap length same.records in
      record {
        begun = rw same.records k.begun;
        lifted = rw same.records k.lifted;
        holds = rw same.records k.holds;
        counted = record {
          counts = rw (same.records, same.given, same.opens, same.tripped, same.down, same.closed) k.counted.counts;
          room = rw (n, l) (let x : ℕ = length s.log.records.items + left s.log.opens s.log.tripped s.log.down s.log.closed in let p : x ≤ vec_capacity s.log.records = k.counted.room in let g : x ≤ vec_capacity b.records = omega (arith, p, same.room) in g);
          unused = same.history ∙ k.counted.unused;
          history_room = rw (n, l) (let x : ℕ = length s.log.records.items + left s.log.opens s.log.tripped s.log.down s.log.closed in let p : x ≤ vec_capacity s.log.history = k.counted.history_room in let g : x ≤ vec_capacity b.history = omega (arith, p, same.history_room) in g);
        };
        legal = rw same.records k.legal;
      }

  -- the listener was polled, and gave nothing
  pub keeps_listener : (s : BoardAs A C S K P L Q) (listener : L) (over faulted : Bool) → Keeps links listeners clocks cause s → (listeners listener).given ≡ (listeners s.outside.listener).given
      → Settled (listeners s.outside.listener) (listeners listener) → SoundAs faulted (listeners s.name.listener.value) (listeners listener)
      → (over ≡ true → ((listeners listener).ended ≡ true) × ForSome (listeners s.outside.listener).offers (λ all. (listeners s.outside.listener).given ≡ Some all))
      → (over ≡ false → (listeners listener).ended ≡ (listeners s.name.listener.value).ended)
      → Keeps links listeners clocks cause (record { name = s.name; log = s.log; outside = record { listener = listener; clock = s.outside.clock; handle = s.outside.handle; over = over; faulted = faulted } })
  keeps_listener s listener over faulted k same settled sound ends goes_on = record { begun = k.begun; lifted = k.lifted; holds = holds_listener links listeners clocks s.name s.outside listener over faulted s.log.records.items k.holds same settled sound ends goes_on; counted = k.counted; legal = k.legal }

  -- a clock and a wire are looked at
  pub keeps_look : (s : BoardAs A C S K P L Q) (clock : Q) (handle : Handle) → Keeps links listeners clocks cause s → TellsOn (clocks s.outside.clock) (clocks clock) → handle.wire ≡ s.outside.handle.wire
      → (0 < s.outside.handle.seen → handle ≡ s.outside.handle) → (s.outside.handle.seen ≡ 0 → handle.looked ≡ s.outside.handle.looked + 1)
      → Keeps links listeners clocks cause (with_handle (with_clock s clock) handle)
  keeps_look s clock handle k on wire again load =
      keeps_handle (with_clock s clock) handle (keeps_clock s clock k on) wire (no_less s.outside.handle.seen s.outside.handle.looked handle.looked (λ some. ap (λ h. h.looked) (again some)) load) (λ some. ap (λ h. h.seen) (again some))

  -- a link that was given now
  pub given_now : (s : BoardAs A C S K P L Q) (v : Vec (RecordOf C S K) Global) (by moment last : ℕ) (copy : Snapshot K) (link : Cancellable K) → Keeps links listeners clocks cause s
      → v.items ≡ s.log.records.items ++ admit_mark by s.log.admitted moment copy ∷ [] → copy.value ≡ link.io → s.outside.handle.seen ≡ 0 → moment ≤ last → IsFreshLink (links link.io) → link.stage ≡ Active
      → IsGiven links v.items by s.log.admitted last link
  given_now s v by moment last copy link k items same unseen late fresh active =
      let ms = s.log.records.items in
      let es = events ms in
      let e : EventOf C S K = Admit s.log.admitted moment by in
      let m : RecordOf C S K = admit_mark by s.log.admitted moment copy in
      let now : events v.items ≡ es ++ e ∷ [] = ap events items ∙ map_push (λ m. m.event) ms m in
      let none = untripped links listeners clocks s.name s.outside ms k.holds k.legal.ordered unseen in
      let unended = fresh_number es s.log.admitted k.legal.ordered k.counted.counts.gave_is in
      let place : s.log.admitted ≡ length (carries links ms) = k.counted.counts.gave_is ∙ sym (length-carries links ms) in
      let ask = (links link.io).asked in
      record {
        fresh = fresh;
        active = active;
        untripped = ap (list_any is_trip) now ∙ (any_push is_trip es e ∙ grind (arith, common_steps, none));
        opened = record {
          admitted = ap (list_any (admits_by s.log.admitted by)) now ∙ (any_push (admits_by s.log.admitted by) es e ∙ grind (arith, common_steps, nat_tests));
          unended = ap (list_any (ends s.log.admitted)) now ∙ (any_push (ends s.log.admitted) es e ∙ grind (arith, common_steps, unended));
          asks = ap (λ ms. slice_get (carries links ms) s.log.admitted) items ∙ (ap (λ asks. slice_get asks s.log.admitted) (carries_admit links ms m refl)
              ∙ (ap (λ n. slice_get (carries links ms ++ (links copy.value).asked ∷ []) n) place ∙ (get_last (carries links ms) (links copy.value).asked ∙ ap (λ k. Some (links k).asked) same)));
        };
        since = ap (list_any (admits_until s.log.admitted last)) now ∙ (any_push (admits_until s.log.admitted last) es e ∙ grind (arith, common_steps, nat_tests, late));
      }

  -- what a board counts says whether it may be closed
  pub may_close : (s : BoardAs A C S K P L Q) → Keeps links listeners clocks cause s → MayClose s.log.records.items → (s.log.closed ≡ false) × (s.log.opens ≡ 0) × (s.log.down ≡ s.log.tripped)
  may_close s k may = (
    k.counted.counts.closed_is ∙ may.unclosed,
    open_none s.log.records.items s.log.admitted s.log.opens s.log.tripped s.log.down s.log.closed k.counted.counts k.legal.ordered may.none_open,
    k.counted.counts.down_is ∙ (may.down ∙ sym k.counted.counts.tripped_is),
  )

  pub can_close : (s : BoardAs A C S K P L Q) → Keeps links listeners clocks cause s → s.log.closed ≡ false → s.log.opens ≡ 0 → s.log.down ≡ s.log.tripped → MayClose s.log.records.items
  can_close s k unclosed none downs = record {
    unclosed = sym k.counted.counts.closed_is ∙ unclosed;
    none_open = none_open s.log.records.items s.log.admitted s.log.tripped s.log.down s.log.closed (subst (λ n. Counts s.log.records.items s.log.admitted n s.log.tripped s.log.down s.log.closed) none k.counted.counts) k.legal.ordered;
    down = sym k.counted.counts.down_is ∙ (downs ∙ k.counted.counts.tripped_is);
  }

  -- the handle has taken another one in
  pub keeps_join : (s : BoardAs A C S K P L Q) (other handle : Handle) → Keeps links listeners clocks cause s → handle.wire ≡ s.outside.handle.wire → handle.looked ≡ max s.outside.handle.looked other.looked
      → (0 < s.outside.handle.seen → handle.seen ≡ s.outside.handle.seen) → Keeps links listeners clocks cause (with_handle s handle)
  keeps_join s other handle k wire looked again = keeps_handle s handle k wire (omega (arith, looked)) again
