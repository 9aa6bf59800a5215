-- The entries of a launch over the sample tell of the requests that its links ask.
use Rattle.std.proofs.Common.{◌≡◌, ◌<◌, ◌≤◌, ◌+◌, ◌++◌, ◌⊎◌, ◌&&◌, inl, inr, ℕ, nat_le, List, [], ◌∷◌, Bool, true, false, ◌==◌, IsSome, IsTrue, Option, Some, None, if◌then◌else◌, length, map, min, slice_get, take, refl, ap, ◌∙◌, sym, subst, arith}
use Rattle.std.specs.Option.{ForSome, option_map}
use Rattle.std.proofs.lemmas.Bool.{false≢true, leb-false, leb-true}
use Rattle.std.proofs.lemmas.Grind.{common_steps}
use Rattle.std.proofs.lemmas.List.{length-map, length-take}
use Rattle.std.proofs.lemmas.Option.{none-some, same_Some, slice_get-map}
use Rattle.rkt_source.specs.Memory.{SourceInMemory, source_meaning}
use Rattle.rkt_link.specs.Asked.{Asked}
use Rattle.rkt_worker.specs.Causes.{AllCaused, CauseAt, CausedAs, Ran}
use Rattle.rkt_link.specs.Clock.{IsWithin}
use Rattle.std.specs.List.{list_any}
use Rattle.rkt_board.specs.After.{AfterFrom}
use Rattle.rkt_board.specs.Closed.{AllAdmitted}
use Rattle.rkt_board.specs.Board.{IsCutWithin}
use Rattle.rkt_board.specs.Events.{is_abandoned, is_trip, was_abandoned, admitted, end_of, InOrder}
use Rattle.rkt_worker.specs.Headline.{AllTimed, HasEntry}
use Rattle.rkt_worker.specs.Serving.{gates_of, launching}
use Rattle.rkt_link.specs.Listener.{Settled}
use Rattle.rkt_link.specs.Memory.{LinkInMemory, ListenerInMemory, asked_of, listener_meaning}
use Rattle.rkt_board.specs.declared.history.End.{End as Ending}
use Rattle.rkt_board.specs.declared.history.End.TheVariants.{Answered, Lost, Cut, Failed, Abandoned, Starved}
use Rattle.rkt_board.specs.declared.history.Failure.TheVariants.{BadHead, BodyFault}
use Rattle.rkt_board.specs.declared.history.EntryOf.{EntryOf}
use Rattle.rkt_board.specs.declared.history.EventOf.{EventOf}
use Rattle.rkt_board.specs.declared.history.EventOf.TheVariants.{Lift, Trip, Admit, End, Down, Close}
use Rattle.rkt_life.specs.declared.no_fairing.NoFairing.{NoFairing}
use Rattle.rkt_fairing.specs.Calls.{CallingAtShutdown}
use Rattle.rkt_exchange.specs.declared.ended.RunOf.{RunOf}
use Rattle.rkt_sample.specs.Calm.{IsWithinGrace}
use Rattle.rkt_sample.specs.declared.catcher.SampleCatcher.{SampleCatcher}
use Rattle.rkt_sample.specs.declared.route.SampleRoute.{SampleRoute}
use Rattle.rkt_message.specs.Reading.{StreamErrs}
use Rattle.rkt_message.specs.Sending.{MayWait}
use Rattle.rkt_message.specs.Response.{ResponseOf}
use Rattle.rkt_message.specs.Sent.{Sent, has_head}
use Rattle.rkt_message.specs.declared.content.Content.{Content}
use Rattle.rkt_message.specs.declared.content.Content.TheVariants as content
use Rattle.rkt_message.specs.declared.piece.Piece.{Piece}
use Rattle.rkt_source.specs.declared.source.SourceError.{SourceError}
use Rattle.rkt_demo.proofs.LivesOnce.{made_at_hand}
use Rattle.rkt_demo.proofs.Places.{front_at, map_front}
use Rattle.rkt_demo.proofs.SampleCalls.{IsAtHand}
use Rattle.rkt_demo.specs.Entries.{ended_section}
use Rattle.rkt_demo.specs.Launched.{ServesFront, served_so, told_of}
use Rattle.rkt_demo.specs.Output.{failed_section, sent_section}
use Rattle.rkt_demo.specs.Sample.{IsSample, SampleTables}
use Rattle.rkt_demo.specs.Shown.{IsMade, IsSection, LeadsTo, asked_for, served_in}
use Rattle.rkt_script.specs.Words.{Table}
use Rattle.rkt_script.specs.declared.script.ScriptRequest.{ScriptRequest}

abbrev Kept : Type 0
Kept = EntryOf ℕ SourceInMemory LinkInMemory

-- the run of an entry, and where its link was cut off, lie in the window
abbrev IsTimed : Option (ℕ × ℕ) → Kept → Type 0
IsTimed window entry = ForSome entry.run (λ run. IsWithin window run.moment) × IsCutWithin window entry.end

timed_end : (window : Option (ℕ × ℕ)) (k : ℕ) (events : List (EventOf ℕ SourceInMemory LinkInMemory)) (entry : Kept) → AllTimed window events → end_of k events ≡ Some entry → IsTimed window entry
timed_end window k [] entry timed found = absurd (none-some entry found)
timed_end window k (Lift calls ∷ es) entry timed found = timed_end window k es entry timed.1 found
timed_end window k (Trip w t ∷ es) entry timed found = timed_end window k es entry timed.1 found
timed_end window k (Down calls ∷ es) entry timed found = timed_end window k es entry timed.1 found
timed_end window k (Admit n m b ∷ es) entry timed found = timed_end window k es entry timed.1 found
timed_end window k (Close m ∷ es) entry timed found = timed_end window k es entry timed.1 found
timed_end window k (End n other m b ∷ es) entry timed found = by_number (n == k) found (timed_end window k es entry timed.1)
  where
    by_number : (t : Bool) → (if t then Some other else end_of k es) ≡ Some entry → (end_of k es ≡ Some entry → IsTimed window entry) → IsTimed window entry
    by_number true here later = subst (IsTimed window) (same_Some other entry here) (timed.0.1, timed.0.2)
    by_number false here later = later here

-- where no word is allowed there is no Trip
pub none_trips : {Task : Type 0} (allowed : ℕ → Type 0) → ((word : ℕ) → ¬ allowed word) → (shuts : CallingAtShutdown SampleRoute SampleCatcher (Unit {0}) ℕ NoFairing Task) (word : ℕ) (window : Option (ℕ × ℕ)) (tables : SampleTables)
    (before es : List (EventOf ℕ SourceInMemory LinkInMemory)) → AfterFrom (CauseAt (launching allowed shuts (served_in word window)) tables) before es → list_any is_trip es ≡ false
none_trips allowed none shuts word window tables before [] caused = refl
none_trips allowed none shuts word window tables before (Trip w m ∷ es) caused = absurd (none w caused.0)
none_trips allowed none shuts word window tables before (Lift calls ∷ es) caused = none_trips allowed none shuts word window tables (before ++ Lift calls ∷ []) es caused.1
none_trips allowed none shuts word window tables before (Admit n m b ∷ es) caused = none_trips allowed none shuts word window tables (before ++ Admit n m b ∷ []) es caused.1
none_trips allowed none shuts word window tables before (End n x m b ∷ es) caused = none_trips allowed none shuts word window tables (before ++ End n x m b ∷ []) es caused.1
none_trips allowed none shuts word window tables before (Down calls ∷ es) caused = none_trips allowed none shuts word window tables (before ++ Down calls ∷ []) es caused.1
none_trips allowed none shuts word window tables before (Close m ∷ es) caused = none_trips allowed none shuts word window tables (before ++ Close m ∷ []) es caused.1

-- where there is a Trip, the word of `/stop` is one that may stand
pub trip_told : {Task : Type 0} (allowed : ℕ → Type 0) (shuts : CallingAtShutdown SampleRoute SampleCatcher (Unit {0}) ℕ NoFairing Task) (word stop : ℕ) (window : Option (ℕ × ℕ)) (tables : SampleTables) → ((w : ℕ) → allowed w → w ≡ stop)
    → (before es : List (EventOf ℕ SourceInMemory LinkInMemory)) → AfterFrom (CauseAt (launching allowed shuts (served_in word window)) tables) before es → AfterFrom InOrder before es → list_any is_trip es ≡ true → 0 < stop
trip_told allowed shuts word stop window tables alone before [] caused ordered there = absurd (cc there)
trip_told allowed shuts word stop window tables alone before (Trip w m ∷ es) caused ordered there = subst (λ (n : ℕ). 0 < n) (alone w caused.0) ordered.0.1.2
trip_told allowed shuts word stop window tables alone before (Lift calls ∷ es) caused ordered there = trip_told allowed shuts word stop window tables alone (before ++ Lift calls ∷ []) es caused.1 ordered.1 there
trip_told allowed shuts word stop window tables alone before (Admit n m b ∷ es) caused ordered there = trip_told allowed shuts word stop window tables alone (before ++ Admit n m b ∷ []) es caused.1 ordered.1 there
trip_told allowed shuts word stop window tables alone before (End n x m b ∷ es) caused ordered there = trip_told allowed shuts word stop window tables alone (before ++ End n x m b ∷ []) es caused.1 ordered.1 there
trip_told allowed shuts word stop window tables alone before (Down calls ∷ es) caused ordered there = trip_told allowed shuts word stop window tables alone (before ++ Down calls ∷ []) es caused.1 ordered.1 there
trip_told allowed shuts word stop window tables alone before (Close m ∷ es) caused ordered there = trip_told allowed shuts word stop window tables alone (before ++ Close m ∷ []) es caused.1 ordered.1 there

-- a window is as long as the grace
abbrev is_long : Option (ℕ × ℕ) → ℕ → Bool
is_long None grace = true
is_long (Some w) grace = nat_le (w.0 + grace) w.1

-- an entry of a request
record ServedFor (word : ℕ) (window : Option (ℕ × ℕ)) (request : ScriptRequest) (seen : Option ℕ) (entry : Kept) : Type 0 where
  pub asks : asked_of entry.link.io ≡ asked_for request
  pub timed : ForSome entry.run (λ run. IsWithin window run.moment)
  pub told : IsSome seen → 0 < word

-- no body without a source fails
never_fails : (turns : ℕ) (c d : Content SourceInMemory) → IsAtHand c → (((e : SourceError) × StreamErrs source_meaning e c d) ⊎ MayWait source_meaning turns c) → ⊥
never_fails turns (content.Streamed stream) d at_hand fails = at_hand
never_fails turns content.None d at_hand (inl errs) = errs.1
never_fails turns content.None d at_hand (inr may) = may
never_fails turns content.UnsizedNone d at_hand (inl errs) = errs.1
never_fails turns content.UnsizedNone d at_hand (inr may) = may
never_fails turns (content.Sized rest size) d at_hand (inl errs) = errs.1
never_fails turns (content.Sized rest size) d at_hand (inr may) = may
never_fails turns (content.Phantom length size) d at_hand (inl errs) = errs.1
never_fails turns (content.Phantom length size) d at_hand (inr may) = may

-- where no exchange was abandoned, that of this entry was not
none_left : (k : ℕ) (es : List (EventOf ℕ SourceInMemory LinkInMemory)) (entry : Kept) → list_any is_abandoned es ≡ false → end_of k es ≡ Some entry → was_abandoned entry.end ≡ false
none_left k [] entry none found = absurd (cc found)
none_left k (End n x m b ∷ es) entry none found = by_number (n == k) found (none_left k es entry (grind (arith, common_steps, none)))
  where
    first : was_abandoned x.end ≡ false
    first = grind (arith, common_steps, none)

    by_number : (t : Bool) → (if t then Some x else end_of k es) ≡ Some entry → (end_of k es ≡ Some entry → was_abandoned entry.end ≡ false) → was_abandoned entry.end ≡ false
    by_number true here later = subst (λ (e : Kept). was_abandoned e.end ≡ false) (same_Some x entry here) first
    by_number false there later = later there
none_left k (Lift calls ∷ es) entry none found = none_left k es entry none found
none_left k (Trip w m ∷ es) entry none found = none_left k es entry none found
none_left k (Admit n m b ∷ es) entry none found = none_left k es entry none found
none_left k (Down calls ∷ es) entry none found = none_left k es entry none found
none_left k (Close m ∷ es) entry none found = none_left k es entry none found

module _ (word : ℕ) (window : Option (ℕ × ℕ)) (table : Table) (tables : SampleTables) (sample : IsSample table tables) where
  -- an exchange over these tables made this response to a request
  record MadeHere (shown : Bool) (request : ScriptRequest) (response : ResponseOf SourceInMemory) : Type 0 where
    pub run : RunOf ℕ
    pub timed : IsWithin window run.moment
    pub lifecycle : LeadsTo word window tables shown (asked_for request) run response

  abbrev made_by : (shown : Bool) (request : ScriptRequest) (response : ResponseOf SourceInMemory) → MadeHere shown request response → IsMade table word window shown request response
  made_by shown request response here = record { tables = tables; sample = sample; run = here.run; timed = here.timed; lifecycle = here.lifecycle }

  -- the response of an entry was made of its request
  made_of : (request : ScriptRequest) (seen : Option ℕ) (entry : Kept) (ended : Ending) (ran : Ran (served_in word window) tables seen entry ended) → ServedFor word window request seen entry → MadeHere ran.shown request ran.first
  made_of request seen entry ended ran served = record {
    run = ran.run;
    timed = served.timed ran.run ran.run_kept;
    lifecycle = subst (λ (a : Asked). LeadsTo word window tables ran.shown a ran.run ran.first) served.asks (ran.lifecycle (asked_of entry.link.io) refl);
  }

  -- a window is no longer than the grace, or it is
  short_where : (w : Option (ℕ × ℕ)) → is_long w tables.config.grace ≡ false → IsWithinGrace w (Some (tables.config.grace, tables.config.mercy))
  short_where None not_long = absurd (false≢true (sym not_long))
  short_where (Some w) not_long = leb-false (w.0 + tables.config.grace) w.1 not_long

  long_where : (w : Option (ℕ × ℕ)) → is_long w tables.config.grace ≡ true → ForSome w (λ ends. ends.0 + tables.config.grace ≤ ends.1)
  long_where None long = λ ends is. absurd (none-some ends is)
  long_where (Some w) long = λ ends is. subst (λ (e : ℕ × ℕ). e.0 + tables.config.grace ≤ e.1) (same_Some w ends is) (leb-true (w.0 + tables.config.grace) w.1 long)

  -- what was sent of a response, where a read of its request's body may have been refused or not
  answered_so : (shown long : Bool) → is_long window tables.config.grace ≡ long → (k : ℕ) (request : ScriptRequest) (response : ResponseOf SourceInMemory) (pieces : List Piece) → (IsTrue shown → 0 < word)
      → MadeHere shown request response → Sent source_meaning response pieces → IsSection (served_so (shown && long)) table word window k request (sent_section k pieces)
  answered_so false long is k request response pieces told made sent = record {
    shown = false;
    response = response;
    made = made_by false request response made;
    calm = inl refl;
    told = rw sent.1 (record { pieces = pieces; sent = sent; text = refl });
  }
  answered_so true false is k request response pieces told made sent = record {
    shown = true;
    response = response;
    made = made_by true request response made;
    calm = inr (short_where window is);
    told = rw sent.1 (record { pieces = pieces; sent = sent; text = refl });
  }
  answered_so true true is k request response pieces told made sent = record {
    told = told refl;
    response = response;
    made = made_by true request response made;
    long = long_where window is;
    text = rw sent.1 (record { pieces = pieces; sent = sent; text = refl });
  }

  -- of one that has no head
  headless_so : (shown long : Bool) → is_long window tables.config.grace ≡ long → (k : ℕ) (request : ScriptRequest) (response : ResponseOf SourceInMemory) → (IsTrue shown → 0 < word) → MadeHere shown request response
      → has_head response ≡ false → IsSection (served_so (shown && long)) table word window k request (failed_section k)
  headless_so false long is k request response told made none = record { shown = false; response = response; made = made_by false request response made; calm = inl refl; told = rw none refl }
  headless_so true false is k request response told made none = record { shown = true; response = response; made = made_by true request response made; calm = inr (short_where window is); told = rw none refl }
  headless_so true true is k request response told made none = record { told = told refl; response = response; made = made_by true request response made; long = long_where window is; text = rw none refl }

  -- what may make a body fail
  abbrev BodyFails : ℕ → ResponseOf SourceInMemory → ResponseOf SourceInMemory → Type 0
  BodyFails turns first last = ((e : SourceError) × StreamErrs source_meaning e first.body.content last.body.content) ⊎ MayWait source_meaning turns first.body.content

  -- no body fails of a response that was made
  never_failed : (shown : Bool) (request : ScriptRequest) (turns : ℕ) (first last : ResponseOf SourceInMemory) → MadeHere shown request first → BodyFails turns first last → ⊥
  never_failed shown request turns first last made fails =
      never_fails turns first.body.content last.body.content (made_at_hand table word window shown request first (made_by shown request first made)) fails

  -- whether a Gate of an exchange may have shown a trip, where there was one
  abbrev shown_in : (seen : Option ℕ) (entry : Kept) (ended : Ending) → CausedAs (served_in word window) tables seen entry ended → Bool
  shown_in seen entry Answered caused = caused.shown
  shown_in seen entry Lost caused = caused.0.shown
  shown_in seen entry (Cut saw at) caused = caused.0.shown
  shown_in seen entry (Failed failure) caused = caused.shown
  shown_in seen entry Abandoned caused = true
  shown_in seen entry Starved caused = false

  -- and whether a read of its body may have been refused
  abbrev warned_in : (seen : Option ℕ) (entry : Kept) (ended : Ending) → CausedAs (served_in word window) tables seen entry ended → Bool
  warned_in seen entry ended caused = shown_in seen entry ended caused && is_long window tables.config.grace

  section_of_cause : (k : ℕ) (request : ScriptRequest) (seen : Option ℕ) (entry : Kept) (ended : Ending) → was_abandoned ended ≡ false → (caused : CausedAs (served_in word window) tables seen entry ended) → IsCutWithin window ended
      → ServedFor word window request seen entry → IsSection (told_of (warned_in seen entry ended caused) ended) table word window k request (ended_section k ended entry.link.io.held)
  section_of_cause k request seen entry Starved not caused cut served = refl
  section_of_cause k request seen entry Abandoned not caused cut served = absurd (cc not)
  section_of_cause k request seen entry Answered not caused cut served =
      answered_so caused.shown (is_long window tables.config.grace) refl k request caused.first entry.link.io.held (λ is. served.told (caused.behind is)) (made_of request seen entry Answered caused served)
      (subst (Sent source_meaning caused.first) (sym (caused.held entry.link.io.held refl)) caused.sent)
  section_of_cause k request seen entry (Cut saw at) not caused cut served = record {
    told = served.told caused.1.tripped;
    tables = tables;
    sample = sample;
    long = λ w is. omega (arith, (cut.0 w is).0, caused.1.grace, (cut.1 w is).1);
    text = refl;
  }
  section_of_cause k request seen entry Lost not caused cut served = absurd (cc (ap (λ (a : Asked). a.never_faults) served.asks, caused.1))
  section_of_cause k request seen entry (Failed BadHead) not caused cut served =
      headless_so caused.shown (is_long window tables.config.grace) refl k request caused.first (λ is. served.told (caused.behind is)) (made_of request seen entry (Failed BadHead) caused served) caused.sent.0
  section_of_cause k request seen entry (Failed BodyFault) not caused cut served =
      absurd (never_failed caused.shown request _ caused.first caused.response (made_of request seen entry (Failed BodyFault) caused served) caused.sent.0)

  -- a launch serves a front of what its listener offers
  pub launched_serves : (given : Option (List Asked)) (count : ℕ) (events : List (EventOf ℕ SourceInMemory LinkInMemory)) (requests : List ScriptRequest) → given ≡ Some (take count (map asked_for requests)) → AllAdmitted given events
      → AllTimed window events → ((k : ℕ) → k < admitted events → HasEntry (served_in word window) tables given events k) → (list_any is_trip events ≡ true → 0 < word) → list_any is_abandoned events ≡ false
      → ServesFront table word window requests events
  launched_serves given count events requests given_is all timed has word_told none =
      let asks : List Asked = map asked_for requests in
      let many : admitted events ≡ length (take count asks) = all (take count asks) given_is in
      let front : length (take count asks) ≡ min count (length asks) = length-take count asks in
      let same : length asks ≡ length requests = length-map requests asked_for in
      record {
        within = omega (arith, many, front, same);
        each = λ k request within there.
            let entry = has k within in
            let place : slice_get (take count asks) k ≡ slice_get asks k = front_at asks count k (omega (arith, within, many, front)) in
            let asked : Some (asked_of entry.entry.link.io) ≡ Some (asked_for request) =
            entry.asks (take count asks) given_is ∙ place ∙ slice_get-map asked_for requests k ∙ ap (option_map asked_for) there in (
              entry.entry,
              entry.found,
              record {
                warned = warned_in entry.seen entry.entry entry.entry.end entry.caused;
                section = λ n.
                    let times = timed_end window k events entry.entry timed entry.found in
                    section_of_cause n request entry.seen entry.entry entry.entry.end (none_left k events entry.entry none entry.found) entry.caused times.1 (record {
                      asks = same_Some _ _ asked;
                      timed = times.0;
                      told = λ some. word_told (entry.tripped some);
                    });
              },
            );
      }

-- what a listener has given that has stayed as it was is a front of what it offered
pub given_front : (before after : ListenerInMemory) (asks : List Asked) → Settled (listener_meaning before) (listener_meaning after) → map asked_of before.offered ≡ asks
    → (listener_meaning after).given ≡ Some (take after.given asks)
given_front before after asks settled offers =
    let same : map asked_of after.offered ≡ asks = same_Some (map asked_of after.offered) (map asked_of before.offered) settled.offers ∙ offers in
    ap Some (map_front asked_of after.given after.offered ∙ ap (take after.given) same)

-- where no word is allowed, a launch admits all that its listener offers
pub all_served : {Task : Type 0} (allowed : ℕ → Type 0) → ((word : ℕ) → ¬ allowed word) → (shuts : CallingAtShutdown SampleRoute SampleCatcher (Unit {0}) ℕ NoFairing Task) (word : ℕ) (window : Option (ℕ × ℕ)) (tables : SampleTables)
    (before after : ListenerInMemory) (events : List (EventOf ℕ SourceInMemory LinkInMemory)) (requests : List ScriptRequest) → AllCaused (launching allowed shuts (served_in word window)) tables events
    → (list_any is_trip events ≡ false → ForSome (listener_meaning before).offers (λ all. (listener_meaning after).given ≡ Some all)) → AllAdmitted (listener_meaning after).given events → map asked_of before.offered ≡ map asked_for requests
    → admitted events ≡ length requests
all_served allowed none shuts word window tables before after events requests caused offers all offered =
    let given : (listener_meaning after).given ≡ Some (map asked_of before.offered) = offers (none_trips allowed none shuts word window tables [] events caused) (map asked_of before.offered) refl in
    all (map asked_of before.offered) given ∙ ap (λ (asks : List Asked). length asks) offered ∙ length-map requests asked_for
