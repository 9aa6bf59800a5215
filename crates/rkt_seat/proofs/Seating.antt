-- What a turn of a worker adds, and what it leaves.
use Rattle.std.proofs.Common.{inl, inr, ◌⊎◌, ◌≡◌, ◌<◌, ◌++◌, ℕ, Bool, true, false, ◌==◌, ◌||◌, cond, List, [], ◌∷◌, Option, Some, None, slice_get, refl, ap, ◌∙◌, sym, subst, append_assoc, append-nil, arith}
use Rattle.std.proofs.lemmas.Grind.{common_steps}
use Rattle.std.specs.Prelude.{IfSome, IsNone}
use Rattle.std.specs.List.{list_any, AllByRecursion}
use Rattle.std.specs.Option.{ForSome}
use Rattle.std.specs.declared.snapshot.Snapshot.{Snapshot}
use Rattle.rkt_turn.specs.Booked.{StartsWith, Adds, of}
use Rattle.rkt_turn.specs.Known.{entered, gave, last_number, OwnsAdded, SamePlace}
use Rattle.rkt_turn.specs.Pass.{known, IsSameLock}
use Rattle.rkt_turn.specs.Shutdown.{Handle}
use Rattle.rkt_turn.specs.declared.known.Known.{Known}
use Rattle.rkt_turn.specs.declared.pass.PassOf.{PassOf}
use Rattle.rkt_turn.specs.declared.turnstile.Turnstile.{Turnstile}
use Rattle.rkt_link.specs.Asked.{Asked}
use Rattle.rkt_link.specs.Clock.{ClockMeaning, IsWithin}
use Rattle.rkt_link.specs.Link.{LinkMeaning}
use Rattle.rkt_link.specs.Listener.{ListenerMeaning}
use Rattle.rkt_board.proofs.Pushes.{all_push, any_push, map_push}
use Rattle.rkt_board.specs.Board.{BoardAs, IsNumbered, IsServing, Keeps, TimedIn}
use Rattle.rkt_board.specs.Events.{is_trip, is_close, is_down, admits_by, admits_until, ends}
use Rattle.rkt_board.specs.Records.{events, carries, Legal}
use Rattle.rkt_board.specs.Turns.{logged, admit_mark, AddsOne, GivesAs, IsOpen, IsRunOf, SteppedAs, TripsAs}
use Rattle.rkt_board.specs.declared.board.Initial.{Initial}
use Rattle.rkt_board.specs.declared.board.Stepped.{Stepped}
use Rattle.rkt_board.specs.declared.board.Stepped.TheVariants.{Given, Tripped, Again, Stop}
use Rattle.rkt_board.specs.declared.history.EntryOf.{EntryOf}
use Rattle.rkt_board.specs.declared.history.EventOf.{EventOf}
use Rattle.rkt_board.specs.declared.history.EventOf.TheVariants.{Admit, End, Trip}
use Rattle.rkt_board.specs.declared.log_record.RecordOf.{RecordOf}
use Rattle.rkt_seat.specs.Seat.{GivesTo, HasOpen, IsSeat, TookTurn, window_at}
use Rattle.rkt_seat.proofs.Mine.{any_on, asks_on, none_by_mine}

module _ {C S K : Type 0} where
  -- a worker adds one record of its own at most, which is neither a Down nor a Close
  abbrev pub AddsQuietly : ℕ → List (RecordOf C S K) → List (RecordOf C S K) → Type 0
  AddsQuietly by old new =
      (new ≡ old) ⊎ ((m : RecordOf C S K) × (new ≡ old ++ m ∷ []) × (m.by ≡ by) × (is_down m.event ≡ false) × (is_close m.event ≡ false))

  pub stepped_adds : (by : ℕ) (old new : List (RecordOf C S K)) (t : Stepped K) → SteppedAs by old new t → AddsQuietly by old new
  stepped_adds by old new (Given number moment link) adds = inr (admit_mark by number moment adds.0, adds.2, refl, refl, refl)
  stepped_adds by old new Tripped adds = inr (logged by (Trip adds.0 adds.1), adds.2, refl, refl, refl)
  stepped_adds by old new Again adds = inl adds
  stepped_adds by old new Stop adds = inl adds

  pub trip_adds : (by : ℕ) (old new : List (RecordOf C S K)) → TripsAs by old new → AddsQuietly by old new
  trip_adds by old new (inl same) = inl same
  trip_adds by old new (inr (word, moment, is)) = inr (logged by (Trip word moment), is, refl, refl, refl)

  pub end_adds : (by number moment : ℕ) (entry : EntryOf C S K) (old new : List (RecordOf C S K)) → AddsOne old new (logged by (End number entry moment by)) → AddsQuietly by old new
  end_adds by number moment entry old new is = inr (logged by (End number entry moment by), is, refl, refl, refl)

  -- so the lock takes it
  pub adds_of : (n by : ℕ) (base old new : List (RecordOf C S K)) → n ≡ by → base ≡ old → AddsQuietly by old new → Adds (λ (m : RecordOf C S K). m.by) n base new
  adds_of n by base old new number found (inl same) = inl (same ∙ sym found)
  adds_of n by base old new number found (inr (m, is, own, up, unclosed)) = inr (m, own ∙ sym number, is ∙ ap (λ (l : List (RecordOf C S K)). l ++ m ∷ []) (sym found))

  -- what was seen stays a front
  pub seen_on : (by : ℕ) (seen found old new : List (RecordOf C S K)) → AddsQuietly by old new → found ≡ old → StartsWith found seen → StartsWith new seen
  seen_on by seen found old new (inl same) is s = (s.0, same ∙ sym is ∙ s.1)
  seen_on by seen found old new (inr (m, more, own, up, unclosed)) is s =
      (s.0 ++ m ∷ [], more ∙ (ap (λ (l : List (RecordOf C S K)). l ++ m ∷ []) (sym is ∙ s.1) ∙ append_assoc seen s.0 (m ∷ [])))

  -- what is entered is the worker's own
  pub mine_same : {N : Type 0} (v w : Known N (RecordOf C S K)) (list : List (RecordOf C S K)) → OwnsAdded v list w → list ≡ v.base → w.mine ≡ v.mine
  mine_same v w list owns same = owns [] (same ∙ sym (append-nil v.base)) ∙ append-nil v.mine

  mine_more : {N : Type 0} (v w : Known N (RecordOf C S K)) (list : List (RecordOf C S K)) (m : RecordOf C S K) → OwnsAdded v list w → list ≡ v.base ++ m ∷ [] → w.mine ≡ v.mine ++ m ∷ []
  mine_more v w list m owns is = owns (m ∷ []) is

  pub mine_stepped : {N : Type 0} (v w : Known N (RecordOf C S K)) (n by : ℕ) (old list : List (RecordOf C S K)) (t : Stepped K) → OwnsAdded v list w → n ≡ by → v.base ≡ old → SteppedAs by old list t → SteppedAs n v.mine w.mine t
  mine_stepped v w n by old list (Given number moment link) owns same base adds =
      subst (λ (k : ℕ). SteppedAs k v.mine w.mine (Given number moment link)) (sym same)
      (adds.0, adds.1, mine_more v w list (admit_mark by number moment adds.0) owns (adds.2 ∙ ap (λ (l : List (RecordOf C S K)). l ++ admit_mark by number moment adds.0 ∷ []) (sym base)))
  mine_stepped v w n by old list Tripped owns same base adds =
      subst (λ (k : ℕ). SteppedAs {K = K} k v.mine w.mine Tripped) (sym same)
      (adds.0, adds.1, mine_more v w list (logged by (Trip adds.0 adds.1)) owns (adds.2 ∙ ap (λ (l : List (RecordOf C S K)). l ++ logged by (Trip adds.0 adds.1) ∷ []) (sym base)))
  mine_stepped v w n by old list Again owns same base adds = mine_same v w list owns (adds ∙ sym base)
  mine_stepped v w n by old list Stop owns same base adds = mine_same v w list owns (adds ∙ sym base)

  pub mine_trips : {N : Type 0} (v w : Known N (RecordOf C S K)) (n by : ℕ) (old list : List (RecordOf C S K)) → OwnsAdded v list w → n ≡ by → v.base ≡ old → TripsAs by old list → TripsAs n v.mine w.mine
  mine_trips v w n by old list owns same base (inl is) = inl (mine_same v w list owns (is ∙ sym base))
  mine_trips v w n by old list owns same base (inr (word, moment, is)) =
      subst (λ (k : ℕ). TripsAs k v.mine w.mine) (sym same)
      (inr (word, moment, mine_more v w list (logged by (Trip word moment)) owns (is ∙ ap (λ (l : List (RecordOf C S K)). l ++ logged by (Trip word moment) ∷ []) (sym base))))

  pub mine_end : {N : Type 0} (v w : Known N (RecordOf C S K)) (n by number moment : ℕ) (entry : EntryOf C S K) (old list : List (RecordOf C S K)) → OwnsAdded v list w → n ≡ by → v.base ≡ old
      → AddsOne old list (logged by (End number entry moment by)) → AddsOne v.mine w.mine (logged n (End number entry moment n))
  mine_end v w n by number moment entry old list owns same base is =
      subst (λ (k : ℕ). AddsOne v.mine w.mine (logged k (End number entry moment k))) (sym same)
      (mine_more v w list (logged by (End number entry moment by)) owns (is ∙ ap (λ (l : List (RecordOf C S K)). l ++ logged by (End number entry moment by) ∷ []) (sym base)))

  -- of an Admit that was entered last, the moment lies in the window
  pub admit_timed : (window : Option (ℕ × ℕ)) (ms : List (RecordOf C S K)) (by number moment : ℕ) (link : Snapshot K) → AllByRecursion (TimedIn window) (events (ms ++ admit_mark by number moment link ∷ [])) → IsWithin window moment
  admit_timed window [] by number moment link all = all.0
  admit_timed window (m ∷ ms) by number moment link all = admit_timed window ms by number moment link all.1

module _ {A C S K P L Q : Type 0} {links : K → LinkMeaning} {listeners : L → ListenerMeaning} {clocks : Q → ClockMeaning} {cause : P → Option (ℕ × ℕ) → List (EventOf C S K) → EventOf C S K → Type 0} where
  -- what a worker adds leaves a board at which workers serve
  pub serving_on : (by : ℕ) (old new : BoardAs A C S K P L Q) → IsServing links listeners clocks cause old → Keeps links listeners clocks cause new → by < last_number → AddsQuietly by old.log.records.items new.log.records.items
      → IsServing links listeners clocks cause new
  serving_on by old new serving keeps small (inl same) = record {
    keeps = keeps;
    up = ap (λ (ms : List (RecordOf C S K)). list_any is_down (events ms)) same ∙ serving.up;
    unclosed = ap (λ (ms : List (RecordOf C S K)). list_any is_close (events ms)) same ∙ serving.unclosed;
    numbered = subst (λ (ms : List (RecordOf C S K)). AllByRecursion IsNumbered ms) (sym same) serving.numbered;
  }
  serving_on by old new serving keeps small (inr (m, is, own, up, unclosed)) =
      let es = events old.log.records.items in
      let now : events new.log.records.items ≡ es ++ m.event ∷ [] = ap events is ∙ map_push (λ (x : RecordOf C S K). x.event) old.log.records.items m in
      record {
        keeps = keeps;
        up = ap (list_any is_down) now ∙ (any_push is_down es m.event ∙ grind (arith, common_steps, up, serving.up));
        unclosed = ap (list_any is_close) now ∙ (any_push is_close es m.event ∙ grind (arith, common_steps, unclosed, serving.unclosed));
        numbered = subst (λ (ms : List (RecordOf C S K)). AllByRecursion IsNumbered ms) (sym is)
            (all_push IsNumbered old.log.records.items m serving.numbered (subst (λ (k : ℕ). k < last_number) (sym own) small));
      }

or_none : (a b : Bool) → (a || b) ≡ false → (a ≡ false) × (b ≡ false)
or_none true b none = absurd (cc none)
or_none false b none = (refl, none)

pub starts_then : {E : Type 0} (a b c : List E) → StartsWith b a → StartsWith c b → StartsWith c a
starts_then a b c one two = (one.0 ++ two.0, two.1 ∙ (ap (λ l. l ++ two.0) one.1 ∙ append_assoc a one.0 two.0))

-- copies of one link are the same
snapshot_same : {K : Type 0} (a b : Snapshot K) → a.value ≡ b.value → a ≡ b
snapshot_same {K = K} a b same = ap (λ (k : K). record { marker = record {}; value = k }) same

module _ {C S K : Type 0} where
  any_cond : (p : EventOf C S K → Bool) (q : Bool) (m : RecordOf C S K) (r : List (RecordOf C S K)) → p m.event ≡ false → list_any p (events r) ≡ false → list_any p (events (cond q (m ∷ r) r)) ≡ false
  any_cond p true m r one two = ap (λ b. b || list_any p (events r)) one ∙ two
  any_cond p false m r one two = two

  -- what the whole list has not, no part of it has
  none_of : (p : EventOf C S K → Bool) (by : ℕ) (ms : List (RecordOf C S K)) → list_any p (events ms) ≡ false → list_any p (events (of (λ (m : RecordOf C S K). m.by) by ms)) ≡ false
  none_of p by [] none = refl
  none_of p by (m ∷ ms) none =
      let both = or_none (p m.event) (list_any p (events ms)) none in
      any_cond p (m.by == by) m (of (λ (x : RecordOf C S K). x.by) by ms) both.0 (none_of p by ms both.1)

module _ {S N E : Type 0} where
  -- what a turn is from entering the lock to leaving it
  pub took_turn : (lock : Turnstile S N E) (p q r : PassOf S N E) (found last : List E) → IsSeat lock p → IsSameLock p q → known q ≡ entered (known p) found → IsSameLock q r → known r ≡ gave (known q) last
      → SamePlace (known q) (known r) → StartsWith last (known p).seen → TookTurn lock p r
  took_turn lock p q r found last seat enters in_turn leaves left same seen = record {
    seat = (
      leaves ∙ (enters ∙ seat.0),
      (ap (λ v. v.turn) left, ap (λ v. v.opened) left),
      subst (λ (n : ℕ). n < last_number) (sym (same.1 ∙ ap (λ v. v.number) in_turn)) seat.2,
    );
    place = (
      same.0 ∙ ap (λ v. v.name) in_turn,
      same.1 ∙ ap (λ v. v.number) in_turn,
      same.2 ∙ ap (λ v. v.next) in_turn,
      same.3 ∙ ap (λ v. v.out) in_turn,
      same.4 ∙ ap (λ v. v.back) in_turn,
    );
    seen = subst (λ (l : List E). StartsWith l (known p).seen) (sym (ap (λ v. v.seen) left)) seen;
  }

  -- a turn that follows another
  pub took_then : (lock : Turnstile S N E) (p q r : PassOf S N E) → TookTurn lock p q → TookTurn lock q r → TookTurn lock p r
  took_then lock p q r one two = record {
    seat = two.seat;
    place = (two.place.0 ∙ one.place.0, two.place.1 ∙ one.place.1, two.place.2 ∙ one.place.2, two.place.3 ∙ one.place.3, two.place.4 ∙ one.place.4);
    seen = starts_then (known p).seen (known q).seen (known r).seen one.seen two.seen;
  }

  -- before any
  pub took_none : (lock : Turnstile S N E) (p : PassOf S N E) → IsSeat lock p → TookTurn lock p p
  took_none lock p seat = record { seat = seat; place = (refl, refl, refl, refl, refl); seen = ([], sym (append-nil (known p).seen)) }

module _ {A P L Q : Type 0} where
  -- what holds of the name of the board that a pass finds holds of its own
  pub of_name : (name : Option (Snapshot (Initial A P L Q Handle))) (found last : Initial A P L Q Handle) (F : Initial A P L Q Handle → Type 0) → name ≡ Some (record { marker = record {}; value = found }) → last ≡ found → F last
      → ForSome name (λ own. F own.value)
  of_name name found last F is same holds own there =
      let one : record { marker = record {}; value = found } ≡ own = cc (is, there) in
      subst F (same ∙ ap (λ (n : Snapshot (Initial A P L Q Handle)). n.value) one) holds

module _ {N C S K : Type 0} (links : K → LinkMeaning) where
  -- what a pass has open is open in the list that it finds
  pub open_in : (v : Known N (RecordOf C S K)) (cause : List (EventOf C S K) → EventOf C S K → Type 0) (found : List (RecordOf C S K)) (number : ℕ) (ask : Option Asked) → HasOpen links v number ask → StartsWith found v.seen
      → of (λ (m : RecordOf C S K). m.by) v.number found ≡ v.mine → Legal links cause found → IsOpen links found v.number number ask
  open_in v cause found number ask has starts mine legal =
      let there : list_any (admits_by number v.number) (events found) ≡ true = any_on (admits_by number v.number) v.seen found starts has.admitted in
      record {
        admitted = there;
        unended = none_by_mine number v.number found v.mine legal.ordered legal.own mine there has.unended;
        asks = asks_on links v.seen found number ask starts has.asks;
      }

  -- a link that was admitted in a turn is what the pass has open
  pub given_open : (v : Known N (RecordOf C S K)) (found items mine : List (RecordOf C S K)) (by number moment : ℕ) (copy : Snapshot K) (ask : Option Asked) → v.seen ≡ items → v.number ≡ by
      → of (λ (m : RecordOf C S K). m.by) by found ≡ mine → items ≡ found ++ admit_mark by number moment copy ∷ [] → v.mine ≡ mine ++ admit_mark by number moment copy ∷ [] → IsOpen links items by number ask → HasOpen links v number ask
  given_open v found items mine by number moment copy ask seen same own adds more is =
      let m : RecordOf C S K = admit_mark by number moment copy in
      let e : EventOf C S K = Admit number moment by in
      let now : events items ≡ events found ++ e ∷ [] = ap events adds ∙ map_push (λ (x : RecordOf C S K). x.event) found m in
      let none : list_any (ends number) (events found) ≡ false = grind (arith, common_steps, any_push (ends number) (events found) e, sym (ap (list_any (ends number)) now) ∙ is.unended) in
      let mine_now : events v.mine ≡ events mine ++ e ∷ [] = ap events more ∙ map_push (λ (x : RecordOf C S K). x.event) mine m in
      let mine_none : list_any (ends number) (events mine) ≡ false = ap (λ (l : List (RecordOf C S K)). list_any (ends number) (events l)) (sym own) ∙ none_of (ends number) by found none in
      record {
        admitted = subst (λ (l : List (RecordOf C S K)). list_any (admits_by number v.number) (events l) ≡ true) (sym seen) (subst (λ (k : ℕ). list_any (admits_by number k) (events items) ≡ true) (sym same) is.admitted);
        unended = ap (list_any (ends number)) mine_now ∙ (any_push (ends number) (events mine) e ∙ grind (arith, common_steps, mine_none));
        asks = subst (λ (l : List (RecordOf C S K)). slice_get (carries links l) number ≡ Some ask) (sym seen) is.asks;
      }

module _ {A P L Q C S K : Type 0} (links : K → LinkMeaning) (clocks : Q → ClockMeaning) where
  -- so what a turn gives is given to the pass
  pub given_to : (v : Known (Snapshot (Initial A P L Q Handle)) (RecordOf C S K)) (found items mine : List (RecordOf C S K)) (by last : ℕ) (t : Stepped K) → v.seen ≡ items → v.number ≡ by
      → of (λ (m : RecordOf C S K). m.by) by found ≡ mine → SteppedAs by found items t → SteppedAs by mine v.mine t → GivesAs links items by last t
      → ((number moment : ℕ) (link : Snapshot K) → items ≡ found ++ admit_mark by number moment link ∷ [] → ForSome v.name (λ name. IsWithin (window_at clocks name) moment))
      → GivesTo links clocks v t
  given_to v found items mine by last (Given number moment link) seen same own adds more gives within =
      let is = gives.1 in record {
        fresh = is.fresh;
        active = is.active;
        untripped = subst (λ (l : List (RecordOf C S K)). list_any is_trip (events l) ≡ false) (sym seen) is.untripped;
        opened = given_open links v found items mine by number moment adds.0 (links link.io).asked seen same own adds.2 (more.2 ∙ ap (λ (s : Snapshot K). mine ++ admit_mark by number moment s ∷ []) (snapshot_same more.0 adds.0 (more.1 ∙ sym adds.1))) is.opened;
        since = subst (λ (l : List (RecordOf C S K)). list_any (admits_until number moment) (events l) ≡ true) (sym seen) (subst (λ (k : ℕ). list_any (admits_until number k) (events items) ≡ true) (sym gives.0) is.since);
        within = within number moment adds.0 adds.2;
      }
  given_to v found items mine by last Tripped seen same own adds more gives within = tt
  given_to v found items mine by last Again seen same own adds more gives within = tt
  given_to v found items mine by last Stop seen same own adds more gives within = tt

-- an End that was entered, or was too early
module _ {C S K : Type 0} where
  pub early_adds : (early : Option (EntryOf C S K)) (by number : ℕ) (entry : EntryOf C S K) (old new : List (RecordOf C S K)) → IfSome early (λ back. (back ≡ entry) × (new ≡ old))
      → (IsNone early → (moment : ℕ) × AddsOne old new (logged by (End number entry moment by))) → AddsQuietly by old new
  early_adds None by number entry old new early adds = let one = adds refl in end_adds by number one.0 entry old new one.1
  early_adds (Some back) by number entry old new early adds = inl early.1

  pub run_on : (window : Option (ℕ × ℕ)) (seen found : List (RecordOf C S K)) (number : ℕ) (entry : EntryOf C S K) (least : ℕ) → StartsWith found seen → IsRunOf window (events seen) number entry least → IsRunOf window (events found) number entry least
  run_on window seen found number entry least starts ran run is =
      let r = ran run is in (any_on (admits_until number run.moment) seen found starts r.0, r.1, r.2)
