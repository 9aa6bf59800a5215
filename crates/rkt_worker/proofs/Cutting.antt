-- What is known of an End whose link was cut off, and of one that was not.
use Rattle.std.proofs.Common.{◌≡◌, ◌≤◌, ◌++◌, inl, inr, ℕ, List, [], ◌∷◌, Option, None, Some, IsSome, true, refl, ap, sym, subst, ◌∙◌, append-nil, append_assoc, arith, rules}
use Rattle.std.specs.List.{AllByRecursion, list_any}
use Rattle.rkt_source.specs.declared.stage.Stage.{Stage}
use Rattle.rkt_link.specs.Clock.{ClockMeaning, IsAmid, IsWithin}
use Rattle.rkt_link.specs.Link.{LinkMeaning}
use Rattle.rkt_link.specs.Listener.{ListenerMeaning}
use Rattle.rkt_source.specs.declared.source.Gate.{Gate}
use Rattle.rkt_exchange.specs.Tables.{SeenTables}
use Rattle.rkt_board.specs.Board.{BoardAs, IsCutWithin}
use Rattle.rkt_board.specs.Events.{is_trip, latest, trip_of, word_of, Ordered}
use Rattle.rkt_board.specs.Records.{events}
use Rattle.rkt_board.specs.Turns.{logged, ShowsTrip, TripsAs}
use Rattle.rkt_board.specs.declared.history.End.{End as Ending}
use Rattle.rkt_board.specs.declared.history.End.TheVariants.{Answered, Lost, Cut, Failed, Abandoned, Starved}
use Rattle.rkt_board.specs.declared.history.EntryOf.{EntryOf}
use Rattle.rkt_board.specs.declared.history.EventOf.{EventOf}
use Rattle.rkt_board.specs.declared.history.EventOf.TheVariants.{Lift, Trip, Admit, End, Down, Close}
use Rattle.rkt_board.specs.declared.log_record.RecordOf.{RecordOf}
use Rattle.rkt_message.specs.Reading.{ReadsOn}
use Rattle.rkt_message.specs.declared.content.Content.{Content}
use Rattle.rkt_source.specs.Source.{Meaning}
use Rattle.rkt_worker.proofs.BodyReads.{reads_more, reads_wider}
use Rattle.rkt_board.proofs.Core.{none_found}
use Rattle.rkt_worker.proofs.Meanwhile.{trips_then, with_trip}
use Rattle.rkt_worker.specs.Causes.{CausedAs, IsDueBehind, Ran}
use Rattle.rkt_worker.specs.Gates.{IsCutBy, IsCutOff, IsGateOf, Watched, WatchedOn, word_in}
use Rattle.rkt_worker.specs.Looking.{AddsTrips, IsCallersTrip, LooksOn, MayLook}
use Rattle.rkt_worker.specs.LookingLaws.{trip_stays}
use Rattle.rkt_worker.specs.Serving.{Serving}
use Rattle.rkt_worker.specs.Waiting.{IsLate}

pub some_word : (trip : ℕ × ℕ) → IsSome (word_in (Some trip))
some_word trip = search rules

-- a trip that a Gate shows is the Trip that is watched
pub word_shown : (watched : Watched) (gate : Gate) → IsGateOf watched gate → IsSome gate.tripped → IsSome (word_in watched.trip)
word_shown watched gate is shown = by_trip gate.tripped refl shown
  where
    by_trip : (t : Option ℕ) → gate.tripped ≡ t → IsSome t → IsSome (word_in watched.trip)
    by_trip None there some = absurd (cc some)
    by_trip (Some word) there some = subst IsSome (sym (is.trip word there).1) some

-- and it stays
pub word_stays : (old new : Watched) → WatchedOn old new → IsSome (word_in old.trip) → IsSome (word_in new.trip)
word_stays old new on shown = by_trip old.trip refl shown
  where
    by_trip : (t : Option (ℕ × ℕ)) → old.trip ≡ t → IsSome (word_in t) → IsSome (word_in new.trip)
    by_trip None there some = absurd (cc some)
    by_trip (Some t) there some = subst IsSome (sym (ap word_in (on.trip t there))) (some_word t)

-- reads under the Gates so far, and then one under the next
pub reads_again : {S : Type 0} (stream : S → Meaning) (old new : Watched) (gate : Gate) (b c d : Content S) → WatchedOn old new → IsGateOf new gate → ReadsOn stream (word_in old.trip) b c → ReadsOn stream gate.tripped c d
    → ReadsOn stream (word_in new.trip) b d
reads_again stream old new gate b c d on is first second =
    reads_more stream (word_in new.trip) b c d (reads_wider stream (word_in old.trip) (word_in new.trip) b c (word_stays old new on) first) (reads_wider stream gate.tripped (word_in new.trip) c d (word_shown new gate is) second)

-- reads that follow one another, while more was watched
pub reads_both : {S : Type 0} (stream : S → Meaning) (u v w : Watched) (b c d : Content S) → WatchedOn u v → WatchedOn v w → ReadsOn stream (word_in u.trip) b c → ReadsOn stream (word_in v.trip) c d → ReadsOn stream (word_in w.trip) b d
reads_both stream u v w b c d one two first second =
    reads_wider stream (word_in v.trip) (word_in w.trip) b d (word_stays v w two) (reads_more stream (word_in v.trip) b c d (reads_wider stream (word_in u.trip) (word_in v.trip) b c (word_stays u v one) first) second)

-- a moment so far lies so later too
pub amid_later : (old mid new : ClockMeaning) (moment : ℕ) → mid.last ≤ new.last → IsAmid old mid moment → IsAmid old new moment
amid_later old mid new moment rises amid = record { from = amid.from; to = omega (arith, amid.to, rises); within = amid.within }

pub cut_off_by : (watched : Watched) (stage : Stage) (ended : Ending) → IsCutOff watched stage ended → IsCutBy watched ended
cut_off_by watched stage (Cut saw cut) off = off.1
cut_off_by watched stage Answered off = tt
cut_off_by watched stage Lost off = tt
cut_off_by watched stage (Failed failure) off = tt
cut_off_by watched stage Abandoned off = tt
cut_off_by watched stage Starved off = tt

-- its moments lie in the window
pub cut_within : (watched : Watched) (ended : Ending) → IsCutBy watched ended → IsCutWithin watched.window ended
cut_within watched (Cut saw cut) by = (by.seen.within, by.within)
cut_within watched Answered by = tt
cut_within watched Lost by = tt
cut_within watched (Failed failure) by = tt
cut_within watched Abandoned by = tt
cut_within watched Starved by = tt

-- and behind the Trip; what was abandoned was late then, and is
pub due_behind : {C R L F H K N V : Type 0} (tables : SeenTables F H K N V) (watched : Watched) (before : List (EventOf C R L)) (moment : ℕ) (ended : Ending) → ((trip : ℕ × ℕ) → watched.trip ≡ Some trip → trip_of before ≡ Some trip) → watched.last ≤ moment
    → IsCutBy watched ended → (ended ≡ Abandoned → IsLate tables.config.grace tables.config.mercy watched.trip watched.last) → IsDueBehind tables before moment ended
due_behind tables watched before moment (Cut saw cut) stays later by late =
    let tripped = by.seen.tripped in
    (tripped.0, stays tripped.0 tripped.1, tripped.2, omega (arith, by.told, later))
due_behind tables watched before moment Abandoned stays later by late =
    let is = late refl in
    (is.0, stays is.0 is.1, omega (arith, is.2, later))
due_behind tables watched before moment Answered stays later by late = tt
due_behind tables watched before moment Lost stays later by late = tt
due_behind tables watched before moment (Failed failure) stays later by late = tt
due_behind tables watched before moment Starved stays later by late = tt

module _ {V S C R F FTask GTask H HTask K KTask L N : Type 0} (served : Serving V S C R F FTask GTask H HTask K KTask L) (tables : SeenTables F H K N V) (seen other : Option ℕ) (wider : IsSome seen → IsSome other) (entry : EntryOf C R L) where
  ran_wider : (ended : Ending) → Ran served tables seen entry ended → Ran served tables other entry ended
  ran_wider ended ran = record {
    run = ran.run;
    run_kept = ran.run_kept;
    first = ran.first;
    shown = ran.shown;
    behind = λ is. wider (ran.behind is);
    lifecycle = ran.lifecycle;
    response = ran.response;
    response_kept = ran.response_kept;
    read_on = ran.read_on;
    reads = reads_wider served.streams seen other ran.first.body.content ran.response.body.content wider ran.reads;
    pieces = ran.pieces;
    sent = ran.sent;
    held = ran.held;
    faults = ran.faults;
  }

  -- what has its cause has it still where a Trip is seen later
  pub caused_wider : (ended : Ending) → CausedAs served tables seen entry ended → CausedAs served tables other entry ended
  caused_wider Answered caused = ran_wider Answered caused
  caused_wider Lost caused = (ran_wider Lost caused.0, caused.1)
  caused_wider (Cut saw cut) caused = (ran_wider (Cut saw cut) caused.0, record { tripped = wider caused.1.tripped; saw_there = caused.1.saw_there; cut_there = caused.1.cut_there; grace = caused.1.grace })
  caused_wider (Failed failure) caused = ran_wider (Failed failure) caused
  caused_wider Abandoned caused = (wider caused.0, caused.1, caused.2)
  caused_wider Starved (inl unsent) = inl unsent
  caused_wider Starved (inr ran) = inr (ran_wider Starved ran)

module _ {C R L : Type 0} where
  -- where a Trip is entered at most, the first one stays the first
  pub trips_stay : (by : ℕ) (old new : List (RecordOf C R L)) → TripsAs by old new → (trip : ℕ × ℕ) → trip_of (events old) ≡ Some trip → trip_of (events new) ≡ Some trip
  trips_stay by old new (inl same) trip found = ap (λ (ms : List (RecordOf C R L)). trip_of (events ms)) same ∙ found
  trips_stay by old new (inr (word, moment, is)) trip found = ap trip_of (with_trip by word moment old new is) ∙ trip_stays (events old) (Trip word moment ∷ []) trip found

  -- what a Trip at most adds are Trips, and the other way round where the events are in order
  pub trips_added : (old new : List (RecordOf C R L)) → TripsAs 0 old new → AddsTrips old new
  trips_added old new (inl same) = ([], same ∙ sym (append-nil old), tt)
  trips_added old new (inr (word, moment, is)) = (logged 0 (Trip word moment) ∷ [], is, ((word, moment, refl), tt))

  trips_more : (old more new : List (RecordOf C R L)) → new ≡ old ++ more → AllByRecursion IsCallersTrip more → Ordered (events new) → TripsAs 0 old new
  trips_more old [] new is all ordered = inl (is ∙ append-nil old)
  trips_more old (m ∷ more) new is all ordered =
      let one : TripsAs 0 old (old ++ m ∷ []) = inr (all.0.0, all.0.1, ap (λ (x : RecordOf C R L). old ++ x ∷ []) all.0.2) in
      trips_then 0 old (old ++ m ∷ []) new ordered one (trips_more (old ++ m ∷ []) more new (is ∙ sym (append_assoc old (m ∷ []) more)) all.1 ordered)

  pub adds_trip : (old new : List (RecordOf C R L)) → AddsTrips old new → Ordered (events new) → TripsAs 0 old new
  adds_trip old new adds ordered = trips_more old adds.0 new adds.1 adds.2 ordered

  -- where there is a Trip, it is found, and its moment is not after the latest
  pub tripped_by : (es : List (EventOf C R L)) (now : ℕ) → list_any is_trip es ≡ true → latest es ≤ now → (trip : ℕ × ℕ) × (trip_of es ≡ Some trip) × (trip.1 ≤ now)
  tripped_by [] now there late = absurd (cc there)
  tripped_by (Trip w m ∷ es) now there late = ((w, m), refl, omega (arith, late))
  tripped_by (Lift calls ∷ es) now there late = tripped_by es now there (omega (arith, late))
  tripped_by (Admit n m b ∷ es) now there late = tripped_by es now there (omega (arith, late))
  tripped_by (End n x m b ∷ es) now there late = tripped_by es now there (omega (arith, late))
  tripped_by (Down calls ∷ es) now there late = tripped_by es now there (omega (arith, late))
  tripped_by (Close m ∷ es) now there late = tripped_by es now there (omega (arith, late))

  -- the word that is shown is that of the first Trip
  pub word_found : (es : List (EventOf C R L)) (word : ℕ) → ShowsTrip (Some word) es → word_in (trip_of es) ≡ Some word
  word_found es word shows = by_trip (trip_of es) refl
    where
      by_trip : (t : Option (ℕ × ℕ)) → trip_of es ≡ t → word_in t ≡ Some word
      by_trip None there = absurd (cc (none_found es there, shows.0))
      by_trip (Some t) there = ap Some (sym (ap word_of there) ∙ shows.1)

  -- so what is shown is seen
  pub word_seen : (es : List (EventOf C R L)) (tripped : Option ℕ) → ShowsTrip tripped es → IsSome tripped → IsSome (word_in (trip_of es))
  word_seen es None shows some = absurd (cc some)
  word_seen es (Some word) shows some = subst IsSome (sym (word_found es word shows)) refl

  -- and a Trip that was there is still
  pub word_still : (by : ℕ) (old new : List (RecordOf C R L)) → TripsAs by old new → IsSome (word_in (trip_of (events old))) → IsSome (word_in (trip_of (events new)))
  word_still by old new trips some = by_trip (trip_of (events old)) refl some
    where
      by_trip : (t : Option (ℕ × ℕ)) → trip_of (events old) ≡ t → IsSome (word_in t) → IsSome (word_in (trip_of (events new)))
      by_trip None there some = absurd (cc some)
      by_trip (Some t) there some = subst IsSome (sym (ap word_in (trips_stay by old new trips t there))) (some_word t)

  -- what a look at a board tells makes a Gate
  pub gate_shown : (watched : Watched) (gate : Gate) (es : List (EventOf C R L)) → watched.trip ≡ trip_of es → watched.last ≡ gate.moment → IsWithin watched.window gate.moment → gate.grace ≡ watched.grace → gate.mercy ≡ watched.mercy → latest es ≤ gate.moment
      → ShowsTrip gate.tripped es → IsGateOf watched gate
  gate_shown watched gate es trip last within grace mercy late shown = record {
    last = last;
    within = within;
    grace = grace;
    mercy = mercy;
    trip = λ word is.
        let shows : ShowsTrip (Some word) es = subst (λ (t : Option ℕ). ShowsTrip t es) is shown in
        let found = tripped_by es gate.moment shows.0 late in
        ((found.0, trip ∙ found.1, found.2), ap word_in trip ∙ word_found es word shows);
  }

module _ {A C R K P L Q : Type 0} {links : K → LinkMeaning} {listeners : L → ListenerMeaning} {clocks : Q → ClockMeaning} {cause : P → Option (ℕ × ℕ) → List (EventOf C R K) → EventOf C R K → Type 0} where
  -- a look at a board enters a Trip at most
  pub looked_adds : (old new : BoardAs A C R K P L Q) → LooksOn clocks old new → MayLook links listeners clocks cause new → TripsAs 0 old.log.records.items new.log.records.items
  looked_adds old new looks may = adds_trip old.log.records.items new.log.records.items looks.adds may.keeps.legal.ordered
