-- The entries of one pass, beginnings of one list, and how often a number stands in a list or among the passes.
use Rattle.std.proofs.Common.{◌≡◌, ◌≢◌, ℕ, zero, suc, ◌+◌, ◌-◌, ◌<◌, ◌≤◌, Bool, length-append, eqb, true, false, cond, ltb, List, [], ◌∷◌, ◌++◌, drop, length, map, set, sym, refl, ap, ◌∙◌, subst, inl, inr, ⊎_elim, arith, eq-eqb, ne_eqb, append_assoc}
use Rattle.std.proofs.lemmas.List.Elements.{filter-append}
use Rattle.std.specs.List.{range_with_len}
use Rattle.std.proofs.lemmas.List.{append-nil, map-append, nil_from_length}
use Rattle.std.proofs.Math.Seq.{drop-append_seam, drop-length}
use Rattle.std.proofs.lemmas.Bool.{ltb-true, ltb-false}
use mathlib.Core.Logic.{dite}
use mathlib.Core.Option.{some, some-injective, some-ne-none}
use native.Mathlib.Decide.{ℕ_discrete}
use lib.ListN.{get_elem?}
use Rattle.atomic_table.proofs.Lists.{at_set}
use Rattle.rkt_turn.specs.declared.known.Known.{Known}
use Rattle.rkt_turn.specs.Booked.{StartsWith, InOneOrder, longer, of, AreOf, Adds}
use Rattle.rkt_turn.specs.declared.known.Returned.{Returned}
use Rattle.rkt_turn.specs.Known.{last_number, one, times, without, has, count, drawn, another, split_off, given_back, joined, joined_all, HasRoom, HaveSeen}

pub one_same : (n : ℕ) → one n n ≡ 1
one_same n = ap (λ b. cond b 1 0) (eq-eqb n n refl)

pub one_else : (n k : ℕ) → n ≢ k → one n k ≡ 0
one_else n k ne = ap (λ b. cond b 1 0) (ne_eqb n k ne)

pub map_twice : {X Y Z : Type 0} (g : Y → Z) (f : X → Y) (xs : List X) → map g (map f xs) ≡ map (λ x. g (f x)) xs
map_twice g f [] = refl
map_twice g f (x ∷ xs) = ap (λ ys. g (f x) ∷ ys) (map_twice g f xs)

range_more : (a n : ℕ) → range_with_len a (suc n) ≡ range_with_len a n ++ (a + n) ∷ []
range_more a zero = ap (λ (k : ℕ). k ∷ []) (omega arith)
range_more a (suc n) = ap (λ ks. a ∷ ks) (range_more (a + 1) n ∙ ap (λ (k : ℕ). range_with_len (a + 1) n ++ k ∷ []) (omega arith))

module _ {E : Type 0} (number : E → ℕ) where
  pub of_other : (n k : ℕ) (es : List E) → AreOf number n es → n ≢ k → of number k es ≡ []
  of_other n k [] a ne = refl
  of_other n k (e ∷ es) a ne = ap (λ b. cond b (e ∷ of number k es) (of number k es)) (ne_eqb (number e) k (λ q. ne (sym a.0 ∙ q))) ∙ of_other n k es a.1 ne

  pub of_same : (n : ℕ) (es : List E) → AreOf number n es → of number n es ≡ es
  of_same n [] a = refl
  of_same n (e ∷ es) a = ap (λ b. cond b (e ∷ of number n es) (of number n es)) (eq-eqb (number e) n a.0) ∙ ap (λ l. e ∷ l) (of_same n es a.1)

  -- what a turn adds is not of another pass
  pub of_added_other : (n k : ℕ) (base added : List E) → AreOf number n added → n ≢ k → of number k (base ++ added) ≡ of number k base
  of_added_other n k base added a ne = filter-append (λ e. eqb (number e) k) base added ∙ (ap (λ l. of number k base ++ l) (of_other n k added a ne) ∙ append-nil (of number k base))

  -- what a turn adds to the list, it adds to the pass's own entries
  pub adds_after : (n : ℕ) (base list mine : List E) → Adds number n base list → Adds number n mine (mine ++ drop (length base) list)
  adds_after n base list mine a = ⊎_elim
      (λ (e : list ≡ base). inl (ap (λ l. mine ++ drop (length base) l) e ∙ (ap (λ l. mine ++ l) (drop-length base) ∙ append-nil mine)))
      (λ (t : (e : E) × (number e ≡ n) × (list ≡ base ++ e ∷ [])). inr (t.0, t.1, ap (λ l. mine ++ drop (length base) l) t.2 ∙ ap (λ l. mine ++ l) (drop-append_seam base (t.0 ∷ []))))
      a

  pub of_added_same : (n : ℕ) (base added : List E) → AreOf number n added → of number n (base ++ added) ≡ of number n base ++ added
  of_added_same n base added a = filter-append (λ e. eqb (number e) n) base added ∙ ap (λ l. of number n base ++ l) (of_same n added a)

module _ {E : Type 0} where
  pub starts_whole : (list : List E) → StartsWith list list
  starts_whole list = ([], sym (append-nil list))

  pub starts_again : (a b c : List E) → StartsWith a b → StartsWith b c → StartsWith a c
  starts_again a b c s t = (t.0 ++ s.0, s.1 ∙ (ap (λ l. l ++ s.0) t.1 ∙ append_assoc c t.0 s.0))

  pub starts_longer : (list seen added : List E) → StartsWith list seen → StartsWith (list ++ added) seen
  starts_longer list seen added s = (s.0 ++ added, ap (λ l. l ++ added) s.1 ∙ append_assoc seen s.0 added)

  pub starts_either : (list a b : List E) → StartsWith list a → StartsWith list b → StartsWith list (longer a b)
  starts_either list a b s t = elim (ltb (length a) (length b)) as (λ c. StartsWith list (cond c b a)) [ true ↦ t | false ↦ s ]

  cons_after : (x y : E) (xs ys : List E) → x ≡ y → StartsWith ys xs → StartsWith (y ∷ ys) (x ∷ xs)
  cons_after x y xs ys e s = (s.0, λ i. sym e i ∷ s.1 i)

  -- what begins one list is in one order
  pub one_order : (list a b : List E) → StartsWith list a → StartsWith list b → InOneOrder a b
  one_order list a b s t = order a b s.0 t.0 (sym s.1 ∙ t.1)
    where
      order : (a b r q : List E) → a ++ r ≡ b ++ q → InOneOrder a b
      order [] b r q e = inl (b, refl)
      order (x ∷ xs) [] r q e = inr (x ∷ xs, refl)
      order (x ∷ xs) (y ∷ ys) r q e = let same : x ≡ y = cc in let tails : xs ++ r ≡ ys ++ q = cc in
          ⊎_elim (λ (s : StartsWith ys xs). inl (cons_after x y xs ys same s)) (λ (s : StartsWith xs ys). inr (cons_after y x ys xs (sym same) s)) (order xs ys r q tails)

  begins_again : (a b : List E) → StartsWith b a → length b ≤ length a → StartsWith a b
  begins_again a b s h = let sum : length b ≡ length a + length s.0 = ap length s.1 ∙ length-append a s.0 in let none : s.0 ≡ [] = nil_from_length s.0 (omega arith) in
      let same : b ≡ a = s.1 ∙ (ap (λ r. a ++ r) none ∙ append-nil a) in ([], sym same ∙ sym (append-nil b))

  -- the longer of two lists in one order begins with both
  pub longer_begins : (a b : List E) → InOneOrder a b → StartsWith (longer a b) a × StartsWith (longer a b) b
  longer_begins a b o = by_test (ltb (length a) (length b)) refl
    where
      by_test : (t : Bool) → ltb (length a) (length b) ≡ t → StartsWith (cond t b a) a × StartsWith (cond t b a) b
      by_test true e = (
        ⊎_elim (λ s. s) (λ (s : StartsWith a b). let l : length a < length b = ltb-true _ _ e in let sum : length a ≡ length b + length s.0 = ap length s.1 ∙ length-append b s.0 in absurd (omega arith)) o,
        starts_whole b,
      )
      by_test false e = (starts_whole a, ⊎_elim (λ s. begins_again a b s (ltb-false _ _ e)) (λ s. s) o)

-- without one k, where k stands in the list, each number stands in it as often as before, but for k
pub times_without : (n k : ℕ) (ks : List ℕ) → 1 ≤ times k ks → times n (without k ks) + one n k ≡ times n ks
times_without n k [] h = absurd (omega arith)
times_without n k (j ∷ []) h = dite (ℕ_discrete k j)
    (λ e. let b : ℕ = one n k in let c : ℕ = one n j in let t : b ≡ c = ap (one n) e in let g : 0 + b ≡ c + 0 = omega arith in g)
    (λ ne. let o : ℕ = one k j in let u : o ≡ 0 = one_else k j ne in let l : 1 ≤ o + 0 = h in absurd (omega arith))
times_without n k (j ∷ i ∷ js) h = dite (ℕ_discrete k j)
    (λ e. let a : ℕ = times n (i ∷ js) in let b : ℕ = one n k in let c : ℕ = one n j in let t : b ≡ c = ap (one n) e in let g : a + b ≡ c + a = omega arith in
    ap (λ q. times n (cond q (i ∷ js) (j ∷ without k (i ∷ js))) + b) (eq-eqb k j e) ∙ g)
    (λ ne. let a : ℕ = times n (i ∷ js) in let b : ℕ = one n k in let c : ℕ = one n j in let d : ℕ = times n (without k (i ∷ js)) in let m : ℕ = times k (i ∷ js) in let o : ℕ = one k j in
    let u : o ≡ 0 = one_else k j ne in let l : 1 ≤ o + m = h in let t : d + b ≡ a = times_without n k (i ∷ js) (omega arith) in let g : (c + d) + b ≡ c + a = omega arith in
    ap (λ q. times n (cond q (i ∷ js) (j ∷ without k (i ∷ js))) + b) (ne_eqb k j ne) ∙ g)

pub length_without : (n : ℕ) (ks : List ℕ) → length (without n ks) ≡ length ks - 1
length_without n [] = refl
length_without n (k ∷ []) = omega arith
length_without n (k ∷ j ∷ ks) = dite (ℕ_discrete n k)
    (λ e. ap (λ q. length (cond q (j ∷ ks) (k ∷ without n (j ∷ ks)))) (eq-eqb n k e) ∙ omega arith)
    (λ ne. let t = length_without n (j ∷ ks) in let a : ℕ = length (without n (j ∷ ks)) in let u : a ≡ length ks = t ∙ omega arith in
    ap (λ q. length (cond q (j ∷ ks) (k ∷ without n (j ∷ ks)))) (ne_eqb n k ne) ∙ omega arith)

module _ {N E : Type 0} where
  -- the last pass is joined first
  pub joined_all_last : (v w : Known N E) (ws : List (Known N E)) → joined_all v (ws ++ w ∷ []) ≡ joined_all (joined v w) ws
  joined_all_last v w [] = refl
  joined_all_last v w (u ∷ us) = ap (λ x. joined x u) (joined_all_last v w us)

  -- what comes back of these passes
  pub joined_back : (v : Known N E) (ws : List (Known N E)) → (joined_all v ws).back ≡ map given_back ws ++ v.back
  joined_back v [] = refl
  joined_back v (w ∷ ws) = ap (λ (rs : List (Returned E)). given_back w ∷ rs) (joined_back v ws)

  pub joined_mine : (v : Known N E) (ws : List (Known N E)) → (joined_all v ws).mine ≡ v.mine
  joined_mine v [] = refl
  joined_mine v (w ∷ ws) = joined_mine v ws

  pub drawn_name : (n : ℕ) (v : Known N E) → (drawn n v).name ≡ v.name
  drawn_name zero v = refl
  drawn_name (suc n) v = drawn_name n v

  -- the numbers are given one after another
  pub drawn_next : (n : ℕ) (v : Known N E) → HasRoom n v → (drawn n v).next ≡ v.next + n
  drawn_next zero v room = omega arith
  drawn_next (suc n) v room =
      let k : ℕ = v.next in let j : ℕ = (drawn n v).next in let l : k + suc n ≤ last_number = room in
      let now : j ≡ k + n = drawn_next n v (omega arith) in
      ap (λ b. cond b last_number (j + 1)) (ne_eqb j last_number (λ e. omega arith)) ∙ omega arith

  pub split_numbers : (n : ℕ) (v : Known N E) → HasRoom n v → map (λ (w : Known N E). w.number) (split_off n v) ≡ range_with_len v.next n
  split_numbers zero v room = refl
  split_numbers (suc n) v room =
      let k : ℕ = v.next in let l : k + suc n ≤ last_number = room in let fewer : HasRoom n v = omega arith in
      map-append (λ (w : Known N E). w.number) (split_off n v) (another (drawn n v) ∷ [])
      ∙ ((λ i. split_numbers n v fewer i ++ drawn_next n v fewer i ∷ []) ∙ sym (range_more k n))

  pub seen_last : (list : List E) (w : Known N E) (ws : List (Known N E)) → HaveSeen list ws → StartsWith list w.seen → HaveSeen list (ws ++ w ∷ [])
  seen_last list w [] h s = (s, tt)
  seen_last list w (u ∷ us) h s = (h.0, seen_last list w us h.1 s)

  pub count_set : (n : ℕ) (vs : List (Known N E)) (i : ℕ) (v w : Known N E) → get_elem? vs i ≡ some v → count n (set vs i w) + has n v ≡ count n vs + has n w
  count_set n [] i v w e = absurd (some-ne-none v (sym e))
  count_set n (x ∷ xs) zero v w e = let same : has n x ≡ has n v = ap (has n) (some-injective x v e) in let a : ℕ = has n x in let b : ℕ = has n v in let c : ℕ = has n w in let d : ℕ = count n xs in
      let t : a ≡ b = same in let g : (c + d) + b ≡ (a + d) + c = omega arith in g
  count_set n (x ∷ xs) (suc i) v w e = let a : ℕ = has n x in let b : ℕ = has n v in let c : ℕ = has n w in let d : ℕ = count n xs in let f : ℕ = count n (set xs i w) in
      let t : f + b ≡ d + c = count_set n xs i v w e in let g : (a + f) + b ≡ (a + d) + c = omega arith in g

  pub count_same : (n : ℕ) (vs : List (Known N E)) (i : ℕ) (v w : Known N E) → get_elem? vs i ≡ some v → has n v ≡ has n w → count n (set vs i w) ≡ count n vs
  count_same n vs i v w e h = let b : ℕ = has n v in let c : ℕ = has n w in let d : ℕ = count n vs in let f : ℕ = count n (set vs i w) in let t : f + b ≡ d + c = count_set n vs i v w e in let u : b ≡ c = h in let g : f ≡ d = omega arith in g

  pub count_snoc : (n : ℕ) (vs : List (Known N E)) (w : Known N E) → count n (vs ++ w ∷ []) ≡ count n vs + has n w
  count_snoc n [] w = let c : ℕ = has n w in let g : c + 0 ≡ 0 + c = omega arith in g
  count_snoc n (x ∷ xs) w = let a : ℕ = has n x in let c : ℕ = has n w in let d : ℕ = count n xs in let f : ℕ = count n (xs ++ w ∷ []) in let t : f ≡ d + c = count_snoc n xs w in let g : a + f ≡ (a + d) + c = omega arith in g

  pub count_one : (n : ℕ) (vs : List (Known N E)) (i : ℕ) (v : Known N E) → get_elem? vs i ≡ some v → has n v ≤ count n vs
  count_one n [] i v e = absurd (some-ne-none v (sym e))
  count_one n (x ∷ xs) zero v e = let a : ℕ = has n x in let b : ℕ = has n v in let d : ℕ = count n xs in let t : a ≡ b = ap (has n) (some-injective x v e) in let g : b ≤ a + d = omega arith in g
  count_one n (x ∷ xs) (suc i) v e = let a : ℕ = has n x in let b : ℕ = has n v in let d : ℕ = count n xs in let t : b ≤ d = count_one n xs i v e in let g : b ≤ a + d = omega arith in g

  pub count_two : (n : ℕ) (vs : List (Known N E)) (i j : ℕ) (v w : Known N E) → i ≢ j → get_elem? vs i ≡ some v → get_elem? vs j ≡ some w → has n v + has n w ≤ count n vs
  count_two n [] i j v w ne e f = absurd (some-ne-none v (sym e))
  count_two n (x ∷ xs) zero zero v w ne e f = absurd (ne refl)
  count_two n (x ∷ xs) zero (suc j) v w ne e f = let a : ℕ = has n x in let b : ℕ = has n v in let c : ℕ = has n w in let d : ℕ = count n xs in let t : a ≡ b = ap (has n) (some-injective x v e) in let u : c ≤ d = count_one n xs j w f in let g : b + c ≤ a + d = omega arith in g
  count_two n (x ∷ xs) (suc i) zero v w ne e f = let a : ℕ = has n x in let b : ℕ = has n v in let c : ℕ = has n w in let d : ℕ = count n xs in let t : a ≡ c = ap (has n) (some-injective x w f) in let u : b ≤ d = count_one n xs i v e in let g : b + c ≤ a + d = omega arith in g
  count_two n (x ∷ xs) (suc i) (suc j) v w ne e f = let a : ℕ = has n x in let b : ℕ = has n v in let c : ℕ = has n w in let d : ℕ = count n xs in let t : b + c ≤ d = count_two n xs i j v w (λ q. ne (ap suc q)) e f in let g : b + c ≤ a + d = omega arith in g

  pub has_own : (n : ℕ) (v : Known N E) → v.spent ≡ false → v.number ≡ n → has n v ≡ 1
  has_own n v s e = ap (λ b. cond b 0 (one n v.number)) s ∙ (ap (one n) e ∙ one_same n)

  pub each_set : (F : ℕ → Known N E → Type 0) (vs : List (Known N E)) (me : ℕ) (w : Known N E) → F me w → ((j : ℕ) (d : Known N E) → j ≢ me → get_elem? vs j ≡ some d → F j d) → (j : ℕ) (d : Known N E) → get_elem? (set vs me w) j ≡ some d → F j d
  each_set F vs me w mine others j d e = ⊎_elim (λ (t : (j ≡ me) × (w ≡ d)). subst (λ (x : ℕ × Known N E). F x.0 x.1) (λ i. (sym t.0 i, t.1 i)) mine)
      (λ (t : (j ≢ me) × (get_elem? vs j ≡ some d)). others j d t.0 t.1) (at_set vs me j w d e)
