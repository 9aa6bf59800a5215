-- How the numbers of a log count its records.
use Rattle.std.proofs.Common.{inl, inr, ◌⊎◌, ⊎_elim, zero, suc, ◌≡◌, ◌≢◌, ◌<◌, ◌≤◌, ◌+◌, ◌-◌, ◌++◌, ◌==◌, ℕ, cond, Bool, true, false, ◌||◌, List, [], ◌∷◌, length, refl, ap, ◌∙◌, sym, subst, add-one, arith}
use Rattle.std.proofs.lemmas.Grind.{common_steps}
use Rattle.std.proofs.lemmas.Bool.Decides.{nat_tests}
use Rattle.std.specs.List.{list_any, count_by}
use Rattle.std.specs.declared.snapshot.Snapshot.{Snapshot}
use mathlib.Core.Logic.{dite}
use native.Mathlib.Decide.{ℕ_discrete}
use Rattle.rkt_board.proofs.Core.{any_by, given_below, below_given, ended_given, closed_out}
use Rattle.rkt_board.proofs.Pushes.{any_push, count_push, map_push, ended_same}
use Rattle.rkt_board.specs.Board.{Counts}
use Rattle.rkt_board.specs.Events.{is_trip, is_admit, is_down, is_close, admits, admits_by, admitted, ends, ended_below, Ordered}
use Rattle.rkt_board.specs.Records.{events}
use Rattle.rkt_board.specs.Turns.{logged, admit_mark}
use Rattle.rkt_board.specs.declared.history.EntryOf.{EntryOf}
use Rattle.rkt_board.specs.declared.history.EventOf.{EventOf}
use Rattle.rkt_board.specs.declared.history.EventOf.TheVariants.{Admit, End}
use Rattle.rkt_board.specs.declared.log_record.RecordOf.{RecordOf}

-- what is not true is false
pub is_not : (t : Bool) {x : Bool} → x ≡ t → (x ≡ true → ⊥) → x ≡ false
is_not true is f = absurd (f is)
is_not false is f = is

positive : (n : ℕ) → n ≢ 0 → 0 < n
positive zero ne = absurd (ne refl)
positive (suc n) ne = omega arith

same_number : (n : ℕ) → (n == n) ≡ true
same_number n = grind (arith, nat_tests)

other_number : (n j : ℕ) → j ≢ n → (n == j) ≡ false
other_number n j ne = grind (arith, nat_tests, ne)

one_more : (t : Bool) (x n : ℕ) → x ≤ n → cond t 1 0 + x ≤ suc n
one_more true x n l = omega (arith, l)
one_more false x n l = omega (arith, l)

at_or_below : (k n : ℕ) → k < suc n → (k ≡ n) ⊎ (k < n)
at_or_below k n l = dite (ℕ_discrete k n) (λ e. inl e) (λ ne. inr (omega (arith, ne, l)))

pub or_false : (b : Bool) → b ≡ (b || false)
or_false true = refl
or_false false = refl

module _ {C S K : Type 0} where
  ended_most : (n : ℕ) (es : List (EventOf C S K)) → ended_below n es ≤ n
  ended_most zero es = omega arith
  ended_most (suc n) es = one_more (list_any (ends n) es) (ended_below n es) n (ended_most n es)

  last_too : (n k : ℕ) (es : List (EventOf C S K)) (t : Bool) → list_any (ends n) es ≡ t → cond t 1 0 + ended_below n es ≡ suc n → k < suc n → (ended_below n es ≡ n → k < n → list_any (ends k) es ≡ true) → list_any (ends k) es ≡ true
  last_too n k es true is full l more = let x : ℕ = ended_below n es in let y : x ≡ n = omega (arith, full) in ⊎_elim (λ (e : k ≡ n). subst (λ (j : ℕ). list_any (ends j) es ≡ true) (sym e) is) (λ (h : k < n). more y h) (at_or_below k n l)
  last_too n k es false is full l more = let x : ℕ = ended_below n es in let m : x ≤ n = ended_most n es in absurd (omega (arith, full, m))

  -- where as many have an End as there are, each has one
  ended_all : (n : ℕ) (es : List (EventOf C S K)) → ended_below n es ≡ n → (k : ℕ) → k < n → list_any (ends k) es ≡ true
  ended_all zero es full k l = absurd (omega (arith, l))
  ended_all (suc n) es full k l = last_too n k es (list_any (ends n) es) refl full l (λ f h. ended_all n es f k h)

  -- where each has an End, as many have one as there are
  all_ended : (n : ℕ) (es : List (EventOf C S K)) → ((k : ℕ) → k < n → list_any (ends k) es ≡ true) → ended_below n es ≡ n
  all_ended zero es each = refl
  all_ended (suc n) es each =
      let a : ℕ = cond (list_any (ends n) es) 1 0 in
      let x : a ≡ 1 = ap (λ t. cond t 1 0) (each n (omega arith)) in
      let r : ended_below n es ≡ n = all_ended n es (λ k h. each k (omega (arith, h))) in
      let b : ℕ = ended_below n es in
      let g : a + b ≡ suc n = omega (arith, x, r) in g

  below_same : (n : ℕ) (xs : List (EventOf C S K)) (e : EventOf C S K) → ((j : ℕ) → j < n → ends j e ≡ false) → ended_below n (xs ++ e ∷ []) ≡ ended_below n xs
  below_same zero xs e other = refl
  below_same (suc n) xs e other = let t : list_any (ends n) (xs ++ e ∷ []) ≡ list_any (ends n) xs = any_push (ends n) xs e ∙ grind (arith, common_steps, other n (omega arith)) in λ i. cond (t i) 1 0 + below_same n xs e (λ j h. other j (omega (arith, h))) i

  -- an End more
  ended_more : (n : ℕ) (es : List (EventOf C S K)) (k : ℕ) (e : EventOf C S K) → ends k e ≡ true → ((j : ℕ) → j ≢ k → ends j e ≡ false) → k < n → list_any (ends k) es ≡ false → ended_below n (es ++ e ∷ []) ≡ ended_below n es + 1
  ended_more zero es k e is else l none = absurd (omega (arith, l))
  ended_more (suc n) es k e is else l none = dite (ℕ_discrete n k)
      (λ q. let a : ℕ = cond (list_any (ends n) (es ++ e ∷ [])) 1 0 in let b : ℕ = cond (list_any (ends n) es) 1 0 in
      let was : list_any (ends n) es ≡ false = subst (λ (j : ℕ). list_any (ends j) es ≡ false) (sym q) none in
      let here : ends n e ≡ true = subst (λ (j : ℕ). ends j e ≡ true) (sym q) is in
      let now : list_any (ends n) (es ++ e ∷ []) ≡ true = any_push (ends n) es e ∙ grind (arith, common_steps, was, here) in
      let x : a ≡ 1 = ap (λ t. cond t 1 0) now in let y : b ≡ 0 = ap (λ t. cond t 1 0) was in
      let r : ended_below n (es ++ e ∷ []) ≡ ended_below n es = below_same n es e (λ j h. else j (omega (arith, h, q))) in omega (arith, x, y, r))
      (λ ne. let a : ℕ = cond (list_any (ends n) (es ++ e ∷ [])) 1 0 in let b : ℕ = cond (list_any (ends n) es) 1 0 in
      let same : list_any (ends n) (es ++ e ∷ []) ≡ list_any (ends n) es = any_push (ends n) es e ∙ grind (arith, common_steps, else n ne) in
      let x : a ≡ b = ap (λ t. cond t 1 0) same in
      let r : ended_below n (es ++ e ∷ []) ≡ ended_below n es + 1 = ended_more n es k e is else (omega (arith, l, ne)) none in omega (arith, x, r))

  -- a list with an open number is not closed
  pub unclosed_yet : (es : List (EventOf C S K)) (n : ℕ) → Ordered es → list_any (admits n) es ≡ true → list_any (ends n) es ≡ false → list_any is_close es ≡ false
  unclosed_yet es n o there none = by_test (list_any is_close es) refl (λ t. (closed_out es o t).0 n)
    where
      by_test : (t : Bool) → list_any is_close es ≡ t → (list_any is_close es ≡ true → list_any (admits n) es ≡ list_any (ends n) es) → list_any is_close es ≡ false
      by_test false is more = is
      by_test true is more = absurd (cc (more is, there, none))

  -- the next number has no End
  pub fresh_number : (es : List (EventOf C S K)) (n : ℕ) → Ordered es → n ≡ admitted es → list_any (ends n) es ≡ false
  fresh_number es n ordered is = is_not (list_any (ends n) es) refl (λ t. let l : n < admitted es = given_below n es ordered (ended_given n es ordered t) in absurd (omega (arith, l, is)))

  one_further : (n : ℕ) (es : List (EventOf C S K)) → list_any (ends n) es ≡ false → ended_below (n + 1) es ≡ ended_below n es
  one_further n es none = let x : ℕ = ended_below n es in let p : ended_below (n + 1) es ≡ 0 + x = ap (λ j. ended_below j es) (add-one n) ∙ ap (λ t. cond t 1 0 + ended_below n es) none in omega (arith, p)

  no_end_yet : (n : ℕ) (es : List (EventOf C S K)) (k m by : ℕ) → ended_below n (es ++ Admit k m by ∷ []) ≡ ended_below n es
  no_end_yet n es k m by = ended_same n es (Admit k m by) (λ j. refl)

  pub length_events : (ms : List (RecordOf C S K)) → length (events ms) ≡ length ms
  length_events [] = refl
  length_events (m ∷ ms) = ap suc (length_events ms)

  -- a logged that opens and ends nothing
  pub counts_push : (ms : List (RecordOf C S K)) (m : RecordOf C S K) (gave opens : ℕ) (trip down closed trip' down' closed' : Bool) → Counts ms gave opens trip down closed
      → is_admit m.event ≡ false → ((k : ℕ) → ends k m.event ≡ false) → trip' ≡ (trip || is_trip m.event) → down' ≡ (down || is_down m.event) → closed' ≡ (closed || is_close m.event)
      → Counts (ms ++ m ∷ []) gave opens trip' down' closed'
  counts_push ms m gave opens trip down closed trip' down' closed' c other none t d l =
      let es = events ms in
      let e = m.event in
      let now : events (ms ++ m ∷ []) ≡ es ++ e ∷ [] = map_push (λ m. m.event) ms m in
      record {
        gave_is = c.gave_is ∙ sym (ap (count_by is_admit) now ∙ (count_push is_admit es e).1 other);
        open_is = ap (λ n. n + opens) (ap (ended_below gave) now ∙ ended_same gave es e none) ∙ c.open_is;
        tripped_is = t ∙ (ap (λ b. b || is_trip e) c.tripped_is ∙ sym (ap (list_any is_trip) now ∙ any_push is_trip es e));
        down_is = d ∙ (ap (λ b. b || is_down e) c.down_is ∙ sym (ap (list_any is_down) now ∙ any_push is_down es e));
        closed_is = l ∙ (ap (λ b. b || is_close e) c.closed_is ∙ sym (ap (list_any is_close) now ∙ any_push is_close es e));
      }

  -- where a number has no End yet, some are open
  pub opens_some : (ms : List (RecordOf C S K)) (gave opens : ℕ) (trip down closed : Bool) (by number : ℕ) → Counts ms gave opens trip down closed → Ordered (events ms)
      → list_any (admits_by number by) (events ms) ≡ true → list_any (ends number) (events ms) ≡ false → 0 < opens
  opens_some ms gave opens trip down closed by number c ordered there none =
      let es = events ms in
      let less : number < gave = subst (λ (n : ℕ). number < n) (sym c.gave_is) (given_below number es ordered (any_by number by es there)) in
      positive opens (λ z. let x : ℕ = ended_below gave es in let h : x + opens ≡ gave = c.open_is in let f : x ≡ gave = omega (arith, h, z) in cc (ended_all gave es f number less, none))

  -- an End
  pub counts_end : (ms : List (RecordOf C S K)) (gave opens : ℕ) (trip down closed : Bool) (by number moment : ℕ) (entry : EntryOf C S K) → Counts ms gave opens trip down closed → Ordered (events ms)
      → list_any (admits_by number by) (events ms) ≡ true → list_any (ends number) (events ms) ≡ false → Counts (ms ++ logged by (End number entry moment by) ∷ []) gave (opens - 1) trip down closed
  counts_end ms gave opens trip down closed by number moment entry c ordered there none =
      let es = events ms in
      let e : EventOf C S K = End number entry moment by in
      let m : RecordOf C S K = logged by e in
      let now : events (ms ++ m ∷ []) ≡ es ++ e ∷ [] = map_push (λ m. m.event) ms m in
      let less : number < gave = subst (λ (n : ℕ). number < n) (sym c.gave_is) (given_below number es ordered (any_by number by es there)) in
      let more : ended_below gave (es ++ e ∷ []) ≡ ended_below gave es + 1 = ended_more gave es number e (same_number number) (λ j ne. other_number number j ne) less none in
      let some : 0 < opens = opens_some ms gave opens trip down closed by number c ordered there none in
      record {
        gave_is = c.gave_is ∙ sym (ap (count_by is_admit) now ∙ (count_push is_admit es e).1 refl);
        open_is = let x : ℕ = ended_below gave es in let y : ℕ = ended_below gave (events (ms ++ m ∷ [])) in let q : y ≡ x + 1 = ap (ended_below gave) now ∙ more in let h : x + opens ≡ gave = c.open_is in omega (arith, q, h, some);
        tripped_is = c.tripped_is ∙ (or_false (list_any is_trip es) ∙ sym (ap (list_any is_trip) now ∙ any_push is_trip es e));
        down_is = c.down_is ∙ (or_false (list_any is_down es) ∙ sym (ap (list_any is_down) now ∙ any_push is_down es e));
        closed_is = c.closed_is ∙ (or_false (list_any is_close es) ∙ sym (ap (list_any is_close) now ∙ any_push is_close es e));
      }

  -- an Admit
  pub counts_admit : (ms : List (RecordOf C S K)) (gave opens next : ℕ) (trip down closed : Bool) (by moment : ℕ) (copy : Snapshot K) → Counts ms gave opens trip down closed → Ordered (events ms)
      → next ≡ gave + 1 → Counts (ms ++ admit_mark by gave moment copy ∷ []) next (opens + 1) trip down closed
  counts_admit ms gave opens next trip down closed by moment copy c ordered step =
      let es = events ms in
      let e : EventOf C S K = Admit gave moment by in
      let m : RecordOf C S K = admit_mark by gave moment copy in
      let now : events (ms ++ m ∷ []) ≡ es ++ e ∷ [] = map_push (λ m. m.event) ms m in
      let counted : admitted (events (ms ++ m ∷ [])) ≡ admitted es + 1 = ap (count_by is_admit) now ∙ (count_push is_admit es e).0 refl in
      record {
        gave_is = step ∙ (ap (λ n. n + 1) c.gave_is ∙ sym counted);
        open_is = let x : ℕ = ended_below gave es in
            let z : ended_below next (events (ms ++ m ∷ [])) ≡ x = ap (λ n. ended_below n (events (ms ++ m ∷ []))) step ∙ (ap (ended_below (gave + 1)) now ∙ (no_end_yet (gave + 1) es gave moment by ∙ one_further gave es (fresh_number es gave ordered c.gave_is))) in
            let q : x + opens ≡ gave = c.open_is in omega (arith, z, q, step);
        tripped_is = c.tripped_is ∙ (or_false (list_any is_trip es) ∙ sym (ap (list_any is_trip) now ∙ any_push is_trip es e));
        down_is = c.down_is ∙ (or_false (list_any is_down es) ∙ sym (ap (list_any is_down) now ∙ any_push is_down es e));
        closed_is = c.closed_is ∙ (or_false (list_any is_close es) ∙ sym (ap (list_any is_close) now ∙ any_push is_close es e));
      }

  -- where none is counted as open, each number that was admitted has an End, and no other
  pub none_open : (ms : List (RecordOf C S K)) (gave : ℕ) (trip down closed : Bool) → Counts ms gave 0 trip down closed → Ordered (events ms)
      → (k : ℕ) → list_any (admits k) (events ms) ≡ list_any (ends k) (events ms)
  none_open ms gave trip down closed c ordered k = both (list_any (admits k) es) (list_any (ends k) es) refl refl
    where
      es : List (EventOf C S K)
      es = events ms

      both : (a b : Bool) → list_any (admits k) (events ms) ≡ a → list_any (ends k) (events ms) ≡ b → a ≡ b
      both true true p q = refl
      both false false p q = refl
      both true false p q =
          let x : ℕ = ended_below gave (events ms) in let h : x + 0 ≡ gave = c.open_is in let full : x ≡ gave = omega (arith, h) in
          let l : k < gave = subst (λ (n : ℕ). k < n) (sym c.gave_is) (given_below k (events ms) ordered p) in absurd (cc (ended_all gave (events ms) full k l, q))
      both false true p q = absurd (cc (ended_given k (events ms) ordered q, p))

  -- where each number that was admitted has an End, none is counted as open
  pub open_none : (ms : List (RecordOf C S K)) (gave opens : ℕ) (trip down closed : Bool) → Counts ms gave opens trip down closed → Ordered (events ms)
      → ((k : ℕ) → list_any (admits k) (events ms) ≡ list_any (ends k) (events ms)) → opens ≡ 0
  open_none ms gave opens trip down closed c ordered each =
      let x : ℕ = ended_below gave (events ms) in
      let full : x ≡ gave = all_ended gave (events ms) (λ k l. sym (each k) ∙ below_given k (events ms) ordered (subst (λ (n : ℕ). k < n) c.gave_is l)) in
      let h : x + opens ≡ gave = c.open_is in omega (arith, h, full)
