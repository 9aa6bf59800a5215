-- What holds of a board that is closed.
use Rattle.std.proofs.Common.{zero, suc, ◌≡◌, ◌<◌, ◌≤◌, ◌+◌, ◌++◌, ℕ, Bool, true, false, List, [], ◌∷◌, map, Option, Some, None, slice_get, length, refl, ap, ◌∙◌, sym, subst, append_assoc, append-nil, ◌==◌, arith}
use Rattle.std.proofs.lemmas.Grind.{common_steps}
use Rattle.std.proofs.lemmas.Bool.Decides.{nat_tests}
use Rattle.std.specs.List.{list_any}
use Rattle.std.specs.Option.{ForSome}
use Rattle.rkt_turn.specs.HandsBack.{HandsBack}
use Rattle.rkt_turn.specs.Shutdown.{Handle}
use Rattle.rkt_link.specs.Asked.{Asked}
use Rattle.rkt_link.specs.Clock.{ClockMeaning}
use Rattle.rkt_link.specs.Link.{LinkMeaning}
use Rattle.rkt_link.specs.Listener.{ListenerMeaning}
use Rattle.rkt_board.proofs.Core.{below_given, closed_out, found_trip}
use Rattle.rkt_board.proofs.Holding.{length-carries}
use Rattle.rkt_board.proofs.Pushes.{end_of_past, end_of_this, end_of_front}
use Rattle.rkt_board.specs.After.{AfterFrom}
use Rattle.rkt_board.specs.Board.{Told, Holds}
use Rattle.rkt_board.specs.Closed.{AllAdmitted, HasCausedEntry}
use Rattle.rkt_board.specs.Events.{is_close, admitted, ends, end_of, trip_of, word_of}
use Rattle.rkt_board.specs.Records.{events, carried, carries, asked_by, AsksAs, AsksAt, Legal}
use Rattle.rkt_board.specs.declared.board.Initial.{Initial}
use Rattle.rkt_board.specs.declared.board.Outside.{Outside}
use Rattle.rkt_board.specs.declared.history.EntryOf.{EntryOf}
use Rattle.rkt_board.specs.declared.history.EventOf.{EventOf}
use Rattle.rkt_board.specs.declared.history.EventOf.TheVariants.{Lift, Trip, Admit, End, Down, Close}
use Rattle.rkt_board.specs.declared.log_record.RecordOf.{RecordOf}

-- what an element in the midst follows
after_at : {X : Type 0} (May : List X → X → Type 0) (before xs : List X) (y : X) (zs : List X) → AfterFrom May before (xs ++ y ∷ zs) → May (before ++ xs) y
after_at May before [] y zs all = subst (λ b. May b y) (sym (append-nil before)) all.0
after_at May before (x ∷ xs) y zs all = subst (λ b. May b y) (append_assoc before (x ∷ []) xs) (after_at May (before ++ x ∷ []) xs y zs all.1)

map_append : {X Y : Type 0} (f : X → Y) (xs ys : List X) → map f (xs ++ ys) ≡ map f xs ++ map f ys
map_append f [] ys = refl
map_append f (x ∷ xs) ys = ap (λ l. f x ∷ l) (map_append f xs ys)

get_front : {X : Type 0} (xs ys : List X) (k : ℕ) (x : X) → slice_get xs k ≡ Some x → slice_get (xs ++ ys) k ≡ Some x
get_front [] ys k x is = absurd (cc is)
get_front (y ∷ xs) ys zero x is = is
get_front (y ∷ xs) ys (suc k) x is = get_front xs ys k x is

get_map : {X : Type 0} (xs : List X) (k : ℕ) (o : Option X) → slice_get (map (λ x. Some x) xs) k ≡ Some o → o ≡ slice_get xs k
get_map [] k o is = absurd (cc is)
get_map (x ∷ xs) zero o is = let same : Some x ≡ o = cc is in sym same
get_map (x ∷ xs) (suc k) o is = get_map xs k o is

length_map : {X : Type 0} (xs : List X) → length (map (λ x. Some x) xs) ≡ length xs
length_map [] = refl
length_map (x ∷ xs) = ap suc (length_map xs)

-- what is told of a listener that had given nothing
told_fresh : (old new : Option (List Asked)) (carried : List (Option Asked)) (asks : List Asked) → Told old new carried → ForSome old (λ given. given ≡ []) → new ≡ Some asks → map (λ asked. Some asked) asks ≡ carried
told_fresh None new carried asks told fresh is = absurd (cc (told, is))
told_fresh (Some old) new carried asks told fresh is =
    let none : old ≡ [] = fresh old refl in
    let same : Some (old ++ told.0) ≡ Some asks = sym told.1 ∙ is in
    let all : old ++ told.0 ≡ asks = cc same in
    ap (λ (l : List Asked). map (λ asked. Some asked) l) (sym all ∙ ap (λ (l : List Asked). l ++ told.0) none) ∙ told.2

module _ {C S K : Type 0} where
  -- the End of a number, with what stands before and behind it
  pub record Stands (ms : List (RecordOf C S K)) (k : ℕ) : Type 0 where
    pub before : List (RecordOf C S K)
    pub logged : RecordOf C S K
    pub rest : List (RecordOf C S K)
    pub parts : ms ≡ before ++ logged ∷ rest
    pub entry : EntryOf C S K
    pub moment : ℕ
    pub by : ℕ
    pub is_end : logged.event ≡ End k entry moment by
    pub first : list_any (ends k) (events before) ≡ false

  stands_here : (ms : List (RecordOf C S K)) (m : RecordOf C S K) (n k : ℕ) (x : EntryOf C S K) (t y : ℕ) → m.event ≡ End n x t y → (n == k) ≡ true → Stands (m ∷ ms) k
  stands_here ms m n k x t y is same =
      let number : n ≡ k = grind (arith, nat_tests, same) in
      record { before = []; logged = m; rest = ms; parts = refl; entry = x; moment = t; by = y; is_end = is ∙ ap (λ n. End n x t y) number; first = refl }

  stands_on : (ms : List (RecordOf C S K)) (m : RecordOf C S K) (k : ℕ) → ends k m.event ≡ false → Stands ms k → Stands (m ∷ ms) k
  stands_on ms m k other s = record {
    before = m ∷ s.before;
    logged = s.logged;
    rest = s.rest;
    parts = ap (λ l. m ∷ l) s.parts;
    entry = s.entry;
    moment = s.moment;
    by = s.by;
    is_end = s.is_end;
    first = grind (arith, common_steps, other, s.first);
  }

  further : (k : ℕ) (m : RecordOf C S K) (ms : List (RecordOf C S K)) (e : EventOf C S K) → m.event ≡ e → ends k e ≡ false → list_any (ends k) (events (m ∷ ms)) ≡ true
      → (list_any (ends k) (events ms) ≡ true → Stands ms k) → Stands (m ∷ ms) k
  further k m ms e is other any more =
      let here : ends k m.event ≡ false = ap (ends k) is ∙ other in
      stands_on ms m k here (more (grind (arith, common_steps, here, any)))

  by_test : (k : ℕ) (m : RecordOf C S K) (ms : List (RecordOf C S K)) (n : ℕ) (x : EntryOf C S K) (t y : ℕ) (b : Bool) → (n == k) ≡ b → m.event ≡ End n x t y → list_any (ends k) (events (m ∷ ms)) ≡ true
      → (list_any (ends k) (events ms) ≡ true → Stands ms k) → Stands (m ∷ ms) k
  by_test k m ms n x t y true same is any more = stands_here ms m n k x t y is same
  by_test k m ms n x t y false other is any more = further k m ms (End n x t y) is other any more

  by_event : (k : ℕ) (m : RecordOf C S K) (ms : List (RecordOf C S K)) (e : EventOf C S K) → m.event ≡ e → list_any (ends k) (events (m ∷ ms)) ≡ true
      → (list_any (ends k) (events ms) ≡ true → Stands ms k) → Stands (m ∷ ms) k
  by_event k m ms (End n x t y) is any more = by_test k m ms n x t y (n == k) refl is any more
  by_event k m ms (Lift calls) is any more = further k m ms (Lift calls) is refl any more
  by_event k m ms (Trip w t) is any more = further k m ms (Trip w t) is refl any more
  by_event k m ms (Admit n t y) is any more = further k m ms (Admit n t y) is refl any more
  by_event k m ms (Down calls) is any more = further k m ms (Down calls) is refl any more
  by_event k m ms (Close t) is any more = further k m ms (Close t) is refl any more

  stands_at : (k : ℕ) (ms : List (RecordOf C S K)) → list_any (ends k) (events ms) ≡ true → Stands ms k
  stands_at k [] any = absurd (cc any)
  stands_at k (m ∷ ms) any = by_event k m ms m.event refl any (stands_at k ms)

  module _ (links : K → LinkMeaning) where
    carried_append : (e : EventOf C S K) (a : Option Asked) (xs ys : List (Option Asked)) → carried links e a (xs ++ ys) ≡ carried links e a xs ++ ys
    carried_append (Admit n t b) a xs ys = refl
    carried_append (Lift calls) a xs ys = refl
    carried_append (Trip w t) a xs ys = refl
    carried_append (End n x t b) a xs ys = refl
    carried_append (Down calls) a xs ys = refl
    carried_append (Close t) a xs ys = refl

    carries_append : (xs ys : List (RecordOf C S K)) → carries links (xs ++ ys) ≡ carries links xs ++ carries links ys
    carries_append [] ys = refl
    carries_append (m ∷ xs) ys = ap (carried links m.event (asked_by links m.link)) (carries_append xs ys) ∙ carried_append m.event (asked_by links m.link) (carries links xs) (carries links ys)

    -- as many were admitted as were given
    pub all_admitted : (old new : Option (List Asked)) (ms : List (RecordOf C S K)) → Told old new (carries links ms) → ForSome old (λ given. given ≡ []) → AllAdmitted new (events ms)
    all_admitted old new ms told fresh asks is = sym (length-carries links ms) ∙ (ap length (sym (told_fresh old new (carries links ms) asks told fresh is)) ∙ length_map asks)

    -- each number that was admitted has its entry
    pub has_entry : (cause : List (EventOf C S K) → EventOf C S K → Type 0) (old new : Option (List Asked)) (ms : List (RecordOf C S K)) (k : ℕ) → Legal links cause ms → list_any is_close (events ms) ≡ true
        → Told old new (carries links ms) → ForSome old (λ given. given ≡ []) → k < admitted (events ms) → HasCausedEntry links cause new (events ms) k
    has_entry cause old new ms k legal closed told fresh less =
        let es = events ms in
        let s = stands_at k ms (sym ((closed_out es legal.ordered closed).0 k) ∙ below_given k es legal.ordered less) in
        let e : EventOf C S K = End k s.entry s.moment s.by in
        let before = events s.before in
        let rest = events s.rest in
        let stands : es ≡ before ++ e ∷ rest = ap events s.parts ∙ (map_append (λ m. m.event) s.before (s.logged ∷ s.rest) ∙ ap (λ (x : EventOf C S K). before ++ x ∷ rest) s.is_end) in
        let caused : cause before e = after_at cause [] before e rest (subst (λ l. AfterFrom cause [] l) stands legal.caused) in
        let asked : AsksAt links s.before s.logged = after_at (AsksAt links) [] s.before s.logged s.rest (subst (λ l. AfterFrom (AsksAt links) [] l) s.parts legal.asks) in
        let asks : slice_get (carries links s.before) k ≡ Some (links s.entry.link.io).asked = subst (λ x. AsksAs links s.before x) s.is_end asked in
        let at : slice_get (carries links ms) k ≡ Some (links s.entry.link.io).asked = ap (λ l. slice_get (carries links l) k) s.parts
        ∙ (ap (λ l. slice_get l k) (carries_append s.before (s.logged ∷ s.rest)) ∙ get_front (carries links s.before) (carries links (s.logged ∷ s.rest)) k (links s.entry.link.io).asked asks) in
        record {
          before = before;
          entry = s.entry;
          moment = s.moment;
          by = s.by;
          rest = rest;
          stands = stands;
          found = ap (end_of k) stands ∙ (end_of_past k before (e ∷ rest) s.first ∙ end_of_front k (e ∷ []) rest s.entry (end_of_this k k s.entry s.moment s.by refl));
          caused = caused;
          asks = λ given is. get_map given k (links s.entry.link.io).asked (ap (λ l. slice_get l k) (told_fresh old new (carries links ms) given told fresh is) ∙ at);
        }

module _ {A C S K P L Q : Type 0} (links : K → LinkMeaning) (listeners : L → ListenerMeaning) (clocks : Q → ClockMeaning) where
  -- the handle has seen the word of the Trip
  pub trip_seen : (name : Initial A P L Q Handle) (outside : Outside L Q Handle) (ms : List (RecordOf C S K)) (trip : ℕ × ℕ) → Holds links listeners clocks name outside ms → trip_of (events ms) ≡ Some trip → outside.handle.seen ≡ trip.0
  trip_seen name outside ms trip h is = h.word (found_trip (events ms) trip is) ∙ ap word_of is

  -- the handle comes back
  pub handed_back : (name : Initial A P L Q Handle) (outside : Outside L Q Handle) (ms : List (RecordOf C S K)) → Holds links listeners clocks name outside ms → HandsBack name.handle.value outside.handle
  handed_back name outside ms h = record {
    wire = h.wire;
    looked = let x : ℕ = name.handle.value.looked in let a : ℕ = admitted (events ms) in let l : x + a ≤ outside.handle.looked = h.looked in omega (arith, l);
    seen = λ some. (h.still some).0;
  }
