-- An entry more in a diary, how many a diary has, and how many of each pass.
use Rattle.std.proofs.Common.{◌≡◌, ◌≢◌, ℕ, zero, suc, ◌+◌, ◌*◌, ◌<◌, ◌≤◌, arith, eqb, ltb, Some, Bool, true, false, not, cond, List, [], ◌∷◌, ◌++◌, length, map, slice_index_or, All, sym, refl, ap, ◌∙◌, subst, eq-eqb, ne_eqb}
use Rattle.std.specs.List.{range_with_len}
use Rattle.std.proofs.lemmas.List.Elements.{filter-append, All-nil, All-cons, All-head, All-tail, All-push, All-weaker, All-map}
use Rattle.std.proofs.lemmas.List.{append-nil, length-append}
use Rattle.std.proofs.lemmas.Bool.{ltb-true, ltb-false}
use Rattle.std.proofs.Math.Nat.{suc-mul}
use mathlib.Core.Logic.{dite}
use native.Mathlib.Decide.{ℕ_discrete}
use Rattle.rkt_turn.specs.Booked.{of}
use Rattle.rkt_turn.specs.Known.{last_number, mine_of, joined_all, OwnsAdded, HasAll, HasMine}
use Rattle.rkt_turn.specs.declared.known.Known.{Known}
use Rattle.rkt_turn.specs.declared.known.Returned.{Returned}
use Rattle.rkt_turn.specs.declared.pass.PassOf.{PassOf}
use Rattle.rkt_turn.specs.declared.turnstile.Turnstile.{Turnstile}
use Rattle.rkt_turn.specs.Pass.{known, number_of, returned, IsFirst, IsNew}
use Rattle.rkt_turn.proofs.Counts.{map_twice}
use Rattle.cases_turn.specs.declared.diary.Diary.{Diary}
use Rattle.cases_turn.specs.declared.diary.Entry.{Entry}
use Rattle.cases_turn.specs.declared.diary.Plan.{Plan}
use Rattle.cases_turn.specs.Diary.{entries_of, writer, TakeTurns, open_after, IsDiary, HasOfEach, IsPlanned, MayWrite, HasWritten}

pub open_last : (begun : Bool) (es : List Entry) (e : Entry) → open_after begun (es ++ e ∷ []) ≡ not (open_after begun es)
open_last begun [] e = refl
open_last begun (x ∷ es) e = open_last (not begun) es e

turns_last : (begun : Bool) (es : List Entry) (e : Entry) → TakeTurns begun es → e.ends ≡ open_after begun es → TakeTurns begun (es ++ e ∷ [])
turns_last begun [] e t h = (h, tt)
turns_last begun (x ∷ es) e t h = (t.0, turns_last (not begun) es e t.1 h)

length_last : (es : List Entry) (e : Entry) → length (es ++ e ∷ []) ≡ length es + 1
length_last es e = length-append es (e ∷ [])

-- what one entry more adds to the entries of a pass
of_last : (k : ℕ) (list : List Entry) (e : Entry) → of writer k (list ++ e ∷ []) ≡ of writer k list ++ cond (eqb e.by k) (e ∷ []) []
of_last k list e = filter-append (λ x. eqb (writer x) k) list (e ∷ [])

last_own : (k : ℕ) (list : List Entry) (e : Entry) → e.by ≡ k → of writer k (list ++ e ∷ []) ≡ of writer k list ++ e ∷ []
last_own k list e same = of_last k list e ∙ ap (λ b. of writer k list ++ cond b (e ∷ []) []) (eq-eqb e.by k same)

last_other : (k : ℕ) (list : List Entry) (e : Entry) → e.by ≢ k → of writer k (list ++ e ∷ []) ≡ of writer k list
last_other k list e ne = of_last k list e ∙ (ap (λ b. of writer k list ++ cond b (e ∷ []) []) (ne_eqb e.by k ne) ∙ append-nil (of writer k list))

pub empty_diary : (plan : Plan) → IsDiary plan []
empty_diary plan = record { turns = λ n. tt; few = λ n. omega arith; nobody_else = All-nil (λ e. writer e ≤ plan.others) }

-- a pass that has turns left may write an entry, an end where something is open
pub one_more : (plan : Plan) (n : ℕ) (list mine : List Entry) (e : Entry) → IsDiary plan list → of writer n list ≡ mine → e.by ≡ n → n ≤ plan.others → length mine < plan.turns → open_after false mine ≡ e.ends → IsDiary plan (list ++ e ∷ [])
one_more plan n list mine e d own who small left next = record {
  turns = λ k. dite (ℕ_discrete e.by k)
      (λ same. subst (TakeTurns false) (sym (last_own k list e same ∙ ap (λ es. es ++ e ∷ []) (found k same))) (turns_last false mine e (subst (TakeTurns false) (found k same) (d.turns k)) (sym next)))
      (λ ne. subst (TakeTurns false) (sym (last_other k list e ne)) (d.turns k));
  few = λ k. dite (ℕ_discrete e.by k)
      (λ same. subst (λ (j : ℕ). j ≤ plan.turns) (sym (ap length (last_own k list e same ∙ ap (λ es. es ++ e ∷ []) (found k same)) ∙ length_last mine e)) (omega (arith, left)))
      (λ ne. subst (λ (es : List Entry). length es ≤ plan.turns) (sym (last_other k list e ne)) (d.few k));
  nobody_else = All-push (λ x. writer x ≤ plan.others) list e d.nobody_else (subst (λ (j : ℕ). j ≤ plan.others) (sym who) small);
}
  where
    found : (k : ℕ) → e.by ≡ k → of writer k list ≡ mine
    found k same = subst (λ j. of writer j list ≡ mine) (sym who ∙ same) own

-- what a pass has entered after a turn in which it wrote this entry
pub mine_after : {N : Type 0} (v w : Known N Entry) (list base : List Entry) (e : Entry) → OwnsAdded v list w → list ≡ base ++ e ∷ [] → v.base ≡ base → w.mine ≡ v.mine ++ e ∷ []
mine_after v w list base e h is at = h (e ∷ []) (is ∙ ap (λ b. b ++ e ∷ []) (sym at))

-- how many entries the passes below m have
abbrev spread : ℕ → List Entry → ℕ
spread zero list = 0
spread (suc m) list = spread m list + length (of writer m list)

cons_own : (k : ℕ) (e : Entry) (es : List Entry) → e.by ≡ k → of writer k (e ∷ es) ≡ e ∷ of writer k es
cons_own k e es same = ap (λ b. cond b (e ∷ of writer k es) (of writer k es)) (eq-eqb e.by k same)

cons_other : (k : ℕ) (e : Entry) (es : List Entry) → e.by ≢ k → of writer k (e ∷ es) ≡ of writer k es
cons_other k e es ne = ap (λ b. cond b (e ∷ of writer k es) (of writer k es)) (ne_eqb e.by k ne)

spread_none : (m : ℕ) → spread m [] ≡ 0
spread_none zero = refl
spread_none (suc m) = let a : ℕ = spread m [] in let t : a ≡ 0 = spread_none m in let g : a + 0 ≡ 0 = omega arith in g

spread_past : (m : ℕ) (e : Entry) (es : List Entry) → m ≤ e.by → spread m (e ∷ es) ≡ spread m es
spread_past zero e es h = refl
spread_past (suc m) e es h = let n : ℕ = e.by in let l : suc m ≤ n = h in
    (λ i. spread_past m e es (omega arith) i + length (cons_other m e es (λ q. let u : n ≡ m = q in absurd (omega arith)) i))

spread_one : (m : ℕ) (e : Entry) (es : List Entry) → e.by < m → spread m (e ∷ es) ≡ spread m es + 1
spread_one zero e es h = absurd (omega (arith, h))
spread_one (suc m) e es h =
    let n : ℕ = e.by in let a : ℕ = spread m (e ∷ es) in let b : ℕ = length (of writer m (e ∷ es)) in let c : ℕ = spread m es in let d : ℕ = length (of writer m es) in
    let l : n < suc m = h in
    dite (ℕ_discrete e.by m)
    (λ same. let q : n ≡ m = same in let t : a ≡ c = spread_past m e es (omega arith) in let u : b ≡ suc d = ap length (cons_own m e es same) in let g : a + b ≡ (c + d) + 1 = omega arith in g)
    (λ ne. let w : n < m = below n m l ne in let t : a ≡ c + 1 = spread_one m e es w in let u : b ≡ d = ap length (cons_other m e es ne) in let g : a + b ≡ (c + d) + 1 = omega arith in g)
  where
    below : (n m : ℕ) → n < suc m → n ≢ m → n < m
    below n m l ne = omega (arith, ne)

spread_whole : (m : ℕ) (list : List Entry) → All (λ e. writer e < m) list → spread m list ≡ length list
spread_whole m [] all = spread_none m
spread_whole m (e ∷ es) all =
    let a : ℕ = spread m (e ∷ es) in let c : ℕ = spread m es in let n : ℕ = length es in
    let t : a ≡ c + 1 = spread_one m e es (All-head (λ e. writer e < m) e es all) in
    let u : c ≡ n = spread_whole m es (All-tail (λ e. writer e < m) e es all) in let g : a ≡ suc n = omega arith in g

spread_few : (t : ℕ) (list : List Entry) → ((n : ℕ) → length (of writer n list) ≤ t) → (m : ℕ) → spread m list ≤ m * t
spread_few t list few zero = omega arith
spread_few t list few (suc m) =
    let a : ℕ = spread m list in let b : ℕ = length (of writer m list) in let c : ℕ = m * t in
    let u : a ≤ c = spread_few t list few m in let w : b ≤ t = few m in let g : a + b ≤ c + t = omega arith in
    subst (λ (k : ℕ). a + b ≤ k) (sym (suc-mul m t)) g

spread_fewer : (t : ℕ) (list : List Entry) → ((n : ℕ) → length (of writer n list) ≤ t) → (n : ℕ) → length (of writer n list) < t → (m : ℕ) → n < m → spread m list < m * t
spread_fewer t list few n less zero h = absurd (omega (arith, h))
spread_fewer t list few n less (suc m) h =
    let a : ℕ = spread m list in let b : ℕ = length (of writer m list) in let c : ℕ = m * t in
    let w : b ≤ t = few m in let l : n < suc m = h in
    subst (λ (k : ℕ). a + b < k) (sym (suc-mul m t)) (dite (ℕ_discrete n m)
    (λ same. let u : a ≤ c = spread_few t list few m in let s : b < t = subst (λ j. length (of writer j list) < t) same less in let g : a + b < c + t = omega arith in g)
    (λ ne. let u : a < c = spread_fewer t list few n less m (omega (arith, ne)) in let g : a + b < c + t = omega arith in g))

-- while a pass has turns left, there is room for its entry
pub room : (plan : Plan) (n : ℕ) (list : List Entry) → IsDiary plan list → n ≤ plan.others → length (of writer n list) < plan.turns → length list < entries_of plan
room plan n list d small left =
    let o : ℕ = plan.others in let l : n ≤ o = small in
    subst (λ (k : ℕ). k < entries_of plan) (spread_whole (suc o) list (All-weaker (λ e. writer e ≤ o) (λ e. writer e < suc o) (λ e (h : e.by ≤ o). omega (arith, h)) list d.nobody_else))
    (subst (λ (k : ℕ). spread (suc o) list < k) (suc-mul o plan.turns) (spread_fewer plan.turns list d.few n left (suc o) (omega arith)))

-- numbers from a on are below b
pub numbers_below : {X : Type 0} (f : X → ℕ) (xs : List X) (a n b : ℕ) → a + n ≡ b → map f xs ≡ range_with_len a n → All (λ x. f x < b) xs
numbers_below f [] a n b sum e = All-nil (λ x. f x < b)
numbers_below f (x ∷ xs) a zero b sum e = absurd (omega (arith, ap length e))
numbers_below f (x ∷ xs) a (suc n) b sum e =
    let k : ℕ = f x in let head : k ≡ a = cc in let s : a + suc n ≡ b = sum in
    All-cons (λ x. f x < b) x xs (let g : k < b = omega arith in g) (numbers_below f xs (a + 1) n b (omega arith) cc)

module _ {X : Type 0} where
  -- what a function gives at each place, it gives of the whole
  pub same_map : {Y : Type 0} (f : X → Y) (xs ys : List X) → length xs ≡ length ys → ((k : ℕ) (d : X) → k < length xs → f (slice_index_or xs k d) ≡ f (slice_index_or ys k d)) → map f xs ≡ map f ys
  same_map f [] [] len each = refl
  same_map f [] (y ∷ ys) len each = absurd (omega (arith, len))
  same_map f (x ∷ xs) [] len each = absurd (omega (arith, len))
  same_map f (x ∷ xs) (y ∷ ys) len each =
      (λ i. each 0 x (omega arith) i ∷ same_map f xs ys (omega (arith, len)) (λ k d h. each (suc k) d (omega (arith, h))) i)

-- a pass of the list has come back with what the list says
mine_found : (t k : ℕ) (rs back : List (Returned Entry)) (a n : ℕ) → map (λ r. r.number) rs ≡ range_with_len a n → All (λ r. length r.mine ≡ t) rs → a ≤ k → k < a + n → length (mine_of k (rs ++ back)) ≡ t
mine_found t k [] back a zero e all low high = absurd (omega (arith, low, high))
mine_found t k [] back a (suc n) e all low high = absurd (omega (arith, ap length e))
mine_found t k (r ∷ rs) back a zero e all low high = absurd (omega (arith, low, high))
mine_found t k (r ∷ rs) back a (suc n) e all low high =
    let head : r.number ≡ a = cc in let tail : map (λ (r : Returned Entry). r.number) rs ≡ range_with_len (a + 1) n = cc in
    let l : a ≤ k = low in let h : k < a + suc n = high in
    dite (ℕ_discrete k r.number)
    (λ same. ap (λ b. length (cond b r.mine (mine_of k (rs ++ back)))) (eq-eqb k r.number same) ∙ All-head (λ r. length r.mine ≡ t) r rs all)
    (λ ne. ap (λ b. length (cond b r.mine (mine_of k (rs ++ back)))) (ne_eqb k r.number ne)
    ∙ mine_found t k rs back (a + 1) n tail (All-tail (λ r. length r.mine ≡ t) r rs all) (above a k l (λ q. ne (sym q ∙ sym head))) (omega arith))
  where
    above : (a k : ℕ) → a ≤ k → a ≢ k → a + 1 ≤ k
    above a k l ne = omega (arith, ne)

of_nobody : (n : ℕ) (list : List Entry) → All (λ e. writer e < n) list → of writer n list ≡ []
of_nobody n [] all = refl
of_nobody n (e ∷ es) all = cons_other n e es (λ q. let k : ℕ = e.by in let l : k < n = All-head (λ e. writer e < n) e es all in let u : k ≡ n = q in absurd (omega arith))
    ∙ of_nobody n es (All-tail (λ e. writer e < n) e es all)

-- a diary that has what the passes 0, 1 .. wrote has so much of each
pub of_each : (plan : Plan) (list : List Entry) (rs back : List (Returned Entry)) → IsDiary plan list → HasAll writer (rs ++ back) list → map (λ r. r.number) rs ≡ range_with_len 0 (suc plan.others) → All (λ r. length r.mine ≡ plan.turns) rs → plan.others < last_number → HasOfEach plan list
of_each plan list rs back d has numbers all small = λ n. by_test n (ltb plan.others n) refl
  where
    by_test : (n : ℕ) (t : Bool) → ltb plan.others n ≡ t → length (of writer n list) ≡ cond t 0 plan.turns
    by_test n true e = let o : ℕ = plan.others in let l : o < n = ltb-true _ _ e in
        ap length (of_nobody n list (All-weaker (λ e. writer e ≤ o) (λ e. writer e < n) (λ e (h : e.by ≤ o). omega (arith, h)) list d.nobody_else))
    by_test n false e = let o : ℕ = plan.others in let l : n ≤ o = ltb-false _ _ e in let s : o < last_number = small in
        ap length (has n (omega arith)) ∙ mine_found plan.turns n rs back 0 (suc o) numbers all (omega arith) (omega arith)

module _ {list : List Entry} (v : Known Plan Entry) (plan : Plan) (may : MayWrite v) (named : v.name ≡ Some plan) (d : IsDiary plan list) (own : HasMine writer v list) where
  planned : may.0 ≡ plan
  planned = cc (may.1.0, named)

  small : v.number ≤ plan.others
  small = subst (λ (p : Plan). v.number ≤ p.others) planned may.1.1

  left : length v.mine < plan.turns
  left = subst (λ (p : Plan). length v.mine < p.turns) planned may.2

  found : of writer v.number list ≡ v.mine
  found = own (omega (arith, may.1.1, may.1.2))

  -- a pass that has turns left finds room
  pub finds_room : length list < entries_of plan
  finds_room = room plan v.number list d small (subst (λ (es : List Entry). length es < plan.turns) (sym found) left)

  -- and may write its next entry
  pub writes_next : (e : Entry) → e.by ≡ v.number → open_after false v.mine ≡ e.ends → IsDiary plan (list ++ e ∷ [])
  writes_next e who next = one_more plan v.number list v.mine e d found who small left next

pub joined_name : {N E : Type 0} (v : Known N E) (ws : List (Known N E)) → (joined_all v ws).name ≡ v.name
joined_name v [] = refl
joined_name v (w ∷ ws) = joined_name v ws

-- passes that were split off are planned
pub all_planned : (plan : Plan) (lock : Turnstile Diary Plan Entry) (ps : List (PassOf Diary Plan Entry)) → All (λ p. IsNew lock p) ps → All (λ p. (known p).name ≡ Some plan) ps → map number_of ps ≡ range_with_len 1 plan.others → plan.others < last_number → All (λ p. IsNew lock p × IsPlanned plan (known p)) ps
all_planned plan lock ps new names numbers small = λ k d h.
    let o : ℕ = plan.others in
    let n : ℕ = number_of (slice_index_or ps k d) in
    let l : n < suc o = numbers_below number_of ps 1 o (suc o) (omega arith) numbers k d h in
    (new k d h, (names k d h, omega arith, small))

-- the first pass and these come back with as much as they had turns
pub comes_back : (plan : Plan) (first : PassOf Diary Plan Entry) (ps : List (PassOf Diary Plan Entry)) (list : List Entry) → IsDiary plan list → HasAll writer (map returned (first ∷ ps) ++ (known first).back) list → IsFirst first → map number_of ps ≡ range_with_len 1 plan.others → HasWritten plan (known first) → All (λ p. HasWritten plan (known p)) ps → plan.others < last_number → HasOfEach plan list
comes_back plan first ps list d has head numbers written all small =
    of_each plan list (map returned (first ∷ ps)) (known first).back d has
    (map_twice (λ r. r.number) returned (first ∷ ps) ∙ (λ i. head i ∷ numbers i))
    (All-map (λ r. length r.mine ≡ plan.turns) returned (first ∷ ps) (All-cons (λ p. HasWritten plan (known p)) first ps written all))
    small
