-- Each step of the turn lock keeps its rule.
use Rattle.std.proofs.Common.{◌≡◌, ◌≢◌, ℕ, zero, suc, ◌+◌, ◌<◌, ◌≤◌, eqb, true, false, true≢false, cond, Bool, List, [], ◌∷◌, ◌++◌, drop, length, get_or, set, sym, refl, ap, ◌∙◌, subst, ⊎_elim, arith, eq-eqb, ne_eqb, length-set, get_or-set_same, Option, Some, None}
use Rattle.std.proofs.lemmas.List.{set-get_or}
use Rattle.std.proofs.Math.Seq.{drop-append_seam}
use mathlib.Core.Logic.{dite}
use mathlib.Core.Option.{none, some, some-injective, some-ne-none}
use mathlib.Core.Option as maybe
use native.Mathlib.Decide.{ℕ_discrete}
use prog.Atomic.{either}
use lib.ListN.{get_elem?}
use Rattle.atomic_table.specs.Table.{State, Me, step, keeps, takes, gives, stepped, Allows, Splits, Joins, opening, Final, Seen}
use Rattle.atomic_table.proofs.Lists.{set_else, set_again, at_snoc, at_longer}
use Rattle.rkt_turn.specs.declared.known.Known.{Known}
use Rattle.rkt_turn.specs.Booked.{StartsWith, longer, of, AreOf}
use Rattle.rkt_turn.specs.Known.{last_number, one, times, without, mine_of, newcomer, entered, gave, drew, another, took_in, compared, gone, all_passes, HasAll, has, count}
use Rattle.rkt_turn.specs.TurnRule.{Shows, Placed, Fits, Kept, begun, Took, taken, given, settled}
use Rattle.rkt_turn.proofs.Counts.{one_same, one_else, of_added_other, of_added_same, starts_whole, starts_longer, count_set, count_same, count_snoc, count_one, count_two, has_own, each_set, starts_either, one_order, times_without}

module _ {N E : Type 0} where
  -- what a turn leaves alone
  abbrev pub SameKeys : Known N E → Known N E → Type 0
  SameKeys v w = (w.number ≡ v.number) × (w.spent ≡ v.spent) × (w.next ≡ v.next) × (w.out ≡ v.out) × (w.back ≡ v.back)

  has_same : (n : ℕ) (v w : Known N E) → SameKeys v w → has n v ≡ has n w
  has_same n v w k = λ i. cond (sym k.1 i) 0 (one n (sym k.0 i))

  lead_after : (vs : List (Known N E)) (first id : ℕ) (lead v w : Known N E) → get_elem? vs first ≡ some lead → get_elem? vs id ≡ some v → SameKeys v w
      → (next : Known N E) × (get_elem? (set vs id w) first ≡ some next) × SameKeys lead next
  lead_after vs first id lead v w e f k = dite (ℕ_discrete first id)
      (λ here. let same : lead ≡ v = some-injective lead v (sym e ∙ (ap (get_elem? vs) here ∙ f)) in
      (w, ap (get_elem? (set vs id w)) here ∙ placed vs id v f, subst (λ (z : Known N E). SameKeys z w) (sym same) k))
      (λ other. (lead, set_else vs id first w other ∙ e, (refl, refl, refl, refl, refl)))
    where
      placed : (vs : List (Known N E)) (id : ℕ) (v : Known N E) → get_elem? vs id ≡ some v → get_elem? (set vs id w) id ≡ some w
      placed [] id v e = absurd (some-ne-none v (sym e))
      placed (x ∷ xs) zero v e = refl
      placed (x ∷ xs) (suc id) v e = placed xs id v e

module _ {S N E : Type 0} (name_of : S → N) (entries : S → List E) (legal : N → List E → Type 0) (kept : S → Type 0) (number : E → ℕ) (name : N) where
  abbrev K : Type 0
  K = Known N E

  abbrev St : Type 0
  St = State (Option S) K

  abbrev M : Type 0
  M = Me (Option S) K

  abbrev Homes : Type 0
  Homes = List (maybe.Option (Option S))

  abbrev Rule : St → Type 0
  Rule = Kept name_of entries legal kept number name

  abbrev Fit : Bool → List E → K → Type 0
  Fit = Fits name_of entries legal kept number name

  abbrev At : St → Bool → List E → maybe.Option ℕ → Type 0
  At = Placed name_of entries legal kept number name

  abbrev Show : Bool → List E → Option S → Type 0
  Show = Shows name_of entries legal kept number name

  abbrev word : St → ℕ
  word s = get_or s.words 0 0

  -- two passes have different numbers, up to the last one
  apart : (s : St) (r : Rule s) (i j : ℕ) (v w : K) → i ≢ j → get_elem? s.views i ≡ some v → get_elem? s.views j ≡ some w → v.spent ≡ false → w.spent ≡ false → v.number < last_number → v.number ≢ w.number
  apart s r i j v w ne e f sv sw l q = let n : ℕ = v.number in let a : ℕ = has n v in let b : ℕ = has n w in let c : ℕ = count n s.views in
      let two : a + b ≤ c = count_two n s.views i j v w ne e f in let x : a ≡ 1 = has_own n v sv refl in let y : b ≡ 1 = has_own n w sw (sym q) in
      let z : c ≤ 1 = subst (λ (k : ℕ). k ≤ 1) (sym (r.counted n)) (r.once n l) in absurd (omega arith)

  -- a step of one pass that leaves its number and what it draws alone
  moved : (s : St) (r : Rule s) (id : ℕ) (v w : K) (words' : List ℕ) (homes' : Homes) (list' : List E) (opened' : Bool) (holder' : maybe.Option ℕ)
      → get_elem? s.views id ≡ some v → SameKeys v w → length words' ≡ 1
      → At (record { words = words'; homes = homes'; views = set s.views id w }) opened' list' holder'
      → ((j : ℕ) (d : K) → j ≢ id → get_elem? s.views j ≡ some d → d.spent ≡ false → (d.turn ≡ true → holder' ≡ some j) × Fit opened' list' d)
      → (w.turn ≡ true → holder' ≡ some id) → Fit opened' list' w → (opened' ≡ false → r.lead.out ≡ [])
      → ((n : ℕ) → n < last_number → times n (0 ∷ r.lead.out) ≡ 0 → of number n list' ≡ of number n r.list)
      → Rule record { words = words'; homes = homes'; views = set s.views id w }
  moved s r id v w words' homes' list' opened' holder' at same long placed others mine fits alone stays = let next = lead_after s.views r.first id r.lead v w r.leads at same in let keys = next.2 in record {
    list = list';
    opened = opened';
    holder = holder';
    first = r.first;
    lead = next.0;
    one_word = long;
    leads = next.1;
    head = (keys.0 ∙ r.head.0, keys.1 ∙ r.head.1);
    placed = placed;
    turns = λ j d e a b. each_set (λ j d. d.spent ≡ false → d.turn ≡ true → holder' ≡ some j) s.views id w (λ _. mine) (λ j d ne e a. (others j d ne e a).0) j d e a b;
    each = λ j d e a. each_set (λ j d. d.spent ≡ false → Fit opened' list' d) s.views id w (λ _. fits) (λ j d ne e a. (others j d ne e a).1) j d e a;
    alone = λ o. keys.3 ∙ alone o;
    counted = λ n. count_same n s.views id v w at (has_same n v w same) ∙ (r.counted n ∙ ap (λ l. times n (0 ∷ l)) (sym keys.3));
    once = λ n l. subst (λ (o : List ℕ). times n (0 ∷ o) ≤ 1) (sym keys.3) (r.once n l);
    others = λ n l z. let none : times n (0 ∷ r.lead.out) ≡ 0 = subst (λ (o : List ℕ). times n (0 ∷ o) ≡ 0) keys.3 z in
        stays n l none ∙ (r.others n l none ∙ ap (mine_of n) (sym keys.4));
    fresh = λ n a l. let b : r.lead.next ≤ n = subst (λ (k : ℕ). k ≤ n) keys.2 a in let f = r.fresh n b l in
        (subst (λ (o : List ℕ). times n (0 ∷ o) ≡ 0) (sym keys.3) f.0, ap (mine_of n) keys.4 ∙ f.1);
  }

  -- a step that changes nothing
  unmoved : (s : St) (r : Rule s) (id : ℕ) (cs : List (ℕ × Option S)) (v : K) → get_elem? s.views id ≡ some v → Rule (stepped s 0 (word s) id cs v keeps)
  unmoved s r id cs v at = subst (λ (z : List ℕ × List K). Rule record { words = z.0; homes = s.homes; views = z.1 }) (λ i. (sym (set-get_or s.words 0 0) i, sym (set_again s.views id v at) i)) r

  at_home : (s : St) (o : Bool) (list : List E) (h : maybe.Option ℕ) → At s o list h → word s ≡ 0 → (h ≡ none) × ((y : Option S) × (s.homes ≡ some y ∷ []) × Show o list y)
  at_home s o list none p z = (refl, p.1)
  at_home s o list (some j) p z = let w = p.4 in absurd (omega arith)

  shown : (o : Bool) (list : List E) (y : Option S) → o ≡ true → Show o list y → (x : S) × (y ≡ Some x) × (name_of x ≡ name) × (entries x ≡ list) × legal name list × kept x
  shown true list (Some x) e p = (x, refl, p.0, p.1, p.2, p.3)
  shown true list None e p = absurd p
  shown false list y e p = absurd (true≢false (sym e))

  blank : (o : Bool) (list : List E) (y : Option S) → o ≡ false → Show o list y → (y ≡ None) × (list ≡ [])
  blank true list y e p = absurd (true≢false e)
  blank false list (Some x) e p = absurd p
  blank false list None e p = (refl, p)

  -- the pass takes the turn, and the slot with it
  takes_turn : (s : St) (r : Rule s) (id n : ℕ) (cs : List (ℕ × Option S)) (v : K) (y : Option S) → get_elem? s.views id ≡ some v → v.spent ≡ false → n ≡ v.number + 1 → r.holder ≡ none → s.homes ≡ some y ∷ []
      → Rule (stepped s 0 n id cs (entered v r.list) (takes 0 y))
  takes_turn s r id n cs v y at live is nobody home = let w : K = entered v r.list in let fit = r.each id v at live in let wide = r.one_word in
      moved s r id v w (set s.words 0 n) (set s.homes 0 none) r.list r.opened (some id) at (refl, refl, refl, refl, refl) (length-set s.words 0 n ∙ r.one_word)
      (w, placed s.views id v w at, live, refl, get_or-set_same s.words 0 n 0 (omega arith) ∙ is, ap (λ hs. set hs 0 none) home, refl)
      (λ j d ne e a. ((λ t. absurd (some-ne-none j (sym (r.turns j d e a t) ∙ nobody))), r.each j d e a))
      (λ _. refl) (record { named = fit.named; open_too = fit.open_too; began = starts_whole r.list; other = fit.other; small = fit.small; own = fit.own }) r.alone (λ _ _ _. refl)
    where
      placed : (vs : List K) (id : ℕ) (v w : K) → get_elem? vs id ≡ some v → get_elem? (set vs id w) id ≡ some w
      placed [] id v w e = absurd (some-ne-none v (sym e))
      placed (x ∷ xs) zero v w e = refl
      placed (x ∷ xs) (suc id) v w e = placed xs id v w e

  zero_alone : (s : St) (r : Rule s) (j : ℕ) (v : K) → r.lead.out ≡ [] → get_elem? s.views j ≡ some v → v.spent ≡ false → v.number ≡ 0
  zero_alone s r j v o e live = let n : ℕ = v.number in dite (ℕ_discrete n 0) (λ z. z)
      (λ nz. let a : ℕ = has n v in let c : ℕ = count n s.views in let d : ℕ = one n 0 in let x : a ≡ 1 = has_own n v live refl in let y : a ≤ c = count_one n s.views j v e in
      let z : c ≡ d + 0 = r.counted n ∙ ap (λ l. times n (0 ∷ l)) o in let w : d ≡ 0 = one_else n 0 nz in absurd (omega arith))

  only_one : (s : St) (r : Rule s) (i j : ℕ) (v w : K) → r.lead.out ≡ [] → get_elem? s.views i ≡ some v → get_elem? s.views j ≡ some w → v.spent ≡ false → w.spent ≡ false → i ≢ j → ⊥
  only_one s r i j v w o e f sv sw ne = apart s r i j v w ne e f sv sw (subst (λ (k : ℕ). k < last_number) (sym (zero_alone s r i v o e sv)) (omega arith)) (zero_alone s r i v o e sv ∙ sym (zero_alone s r j w o f sw))

  -- where the one pass left has no turn, none has
  nobody : (s : St) (r : Rule s) (id : ℕ) (v : K) → r.lead.out ≡ [] → get_elem? s.views id ≡ some v → v.spent ≡ false → v.turn ≡ false → (h : maybe.Option ℕ) → At s r.opened r.list h → h ≡ none
  nobody s r id v o at live idle none p = refl
  nobody s r id v o at live idle (some j) p = dite (ℕ_discrete id j)
      (λ same. let is : v ≡ p.0 = some-injective v p.0 (sym at ∙ (ap (get_elem? s.views) same ∙ p.1)) in absurd (true≢false (sym p.3 ∙ (ap (λ (d : K). d.turn) (sym is) ∙ idle))))
      (λ other. absurd (only_one s r id j v p.0 o at p.1 live p.2 other))

  home_at : (s : St) (o : Bool) (list : List E) (h : maybe.Option ℕ) → h ≡ none → At s o list h → (word s ≡ 0) × ((y : Option S) × (s.homes ≡ some y ∷ []) × Show o list y)
  home_at s o list none e p = p
  home_at s o list (some j) e p = absurd (some-ne-none j e)

  away_at : (s : St) (o : Bool) (list : List E) (h : maybe.Option ℕ) (id : ℕ) (v : K) → h ≡ some id → get_elem? s.views id ≡ some v → At s o list h → (s.homes ≡ none ∷ []) × (v.base ≡ list)
  away_at s o list none id v e at p = absurd (some-ne-none id (sym e))
  away_at s o list (some j) id v e at p = let same : j ≡ id = some-injective j id e in let is : v ≡ p.0 = some-injective v p.0 (sym at ∙ (ap (get_elem? s.views) (sym same) ∙ p.1)) in
      (p.5, ap (λ (d : K). d.base) is ∙ p.6)

  -- the pass of the number 0 is the first
  is_first : (s : St) (r : Rule s) (id : ℕ) (v : K) → get_elem? s.views id ≡ some v → v.spent ≡ false → v.number ≡ 0 → (id ≡ r.first) × (v ≡ r.lead)
  is_first s r id v at live null = dite (ℕ_discrete id r.first)
      (λ e. (e, some-injective v r.lead (sym at ∙ (ap (get_elem? s.views) e ∙ r.leads))))
      (λ ne. absurd (apart s r id r.first v r.lead ne at r.leads live r.head.1 (subst (λ (k : ℕ). k < last_number) (sym null) (omega arith)) (null ∙ sym r.head.0)))

  -- where the first pass has none out, the list has of each number what it and those that came back entered
  has_all : (s : St) (r : Rule s) (id : ℕ) (v : K) → get_elem? s.views id ≡ some v → v.spent ≡ false → v.number ≡ 0 → v.out ≡ [] → HasAll number (all_passes v) r.list
  has_all s r id v at live null none_out n l =
      let fit = r.each id v at live in
      let who = is_first s r id v at live null in
      let out_is : r.lead.out ≡ [] = ap (λ (z : K). z.out) (sym who.1) ∙ none_out in
      let back_is : r.lead.back ≡ v.back = ap (λ (z : K). z.back) (sym who.1) in
      let behind : List E = mine_of n v.back in
      dite (ℕ_discrete n v.number)
      (λ e. let small : v.number < last_number = subst (λ (i : ℕ). i < last_number) e l in
      ap (λ i. of number i r.list) e ∙ (fit.own small ∙ sym (ap (λ b. cond b v.mine behind) (eq-eqb n v.number e))))
      (λ ne. let o : ℕ = one n 0 in let u : o ≡ 0 = one_else n 0 (λ z. ne (z ∙ sym null)) in let none : o + 0 ≡ 0 = omega arith in
      r.others n l (ap (λ o. times n (0 ∷ o)) out_is ∙ none) ∙ (ap (mine_of n) back_is ∙ sym (ap (λ b. cond b v.mine behind) (ne_eqb n v.number ne))))

  pub takes_it : (slots id : ℕ) (me : M) (n : ℕ) → me.0.spent ≡ false → me.0.opened ≡ true → n ≡ me.0.number + 1
      → Allows Rule slots id me 0 (λ x. either (eqb x 0) n x) (taken name_of entries legal kept number (step slots 0 0 n none) me)
  takes_it slots id me n live begun_too is s r _ at _ = let x : ℕ = word s in let v : K = me.0 in dite (ℕ_discrete x 0)
      (λ hit. let home = at_home s r.opened r.list r.holder r.placed hit in let fit = r.each id v at live in let y : Option S = home.1.0 in let w : K = entered v r.list in
      let it = shown r.opened r.list y (sym fit.open_too ∙ begun_too) home.1.2 in let same : r.list ≡ entries it.0 = sym it.3 in (
        w,
        takes 0 y,
        ap (λ hs. get_elem? hs 0) home.1.1,
        subst (λ b. Rule (stepped s 0 (either b n x) id me.1 w (takes 0 y))) (sym (eq-eqb x 0 hit)) (takes_turn s r id n me.1 v y at live is home.0 home.1.1),
        (
          λ _. (
            it.0,
            record {
              named = fit.named ∙ ap Some (sym it.2);
              allowed = subst (λ (z : N × List E). legal z.0 z.1) (λ i. (sym it.2 i, same i)) it.4;
              keeps = it.5;
              began = subst (λ (l : List E). StartsWith l v.seen) same fit.began;
              own = λ l. ap (of number v.number) (sym same) ∙ fit.own l;
              alone = λ null none_out. subst (HasAll number (all_passes v)) same (has_all s r id v at live null none_out);
            },
            λ i. (entered v (same i), (0, it.1 i) ∷ me.1),
          ),
          λ ne. absurd (ne hit),
        ),
      ))
      (λ miss. (
        v,
        keeps,
        tt,
        subst (λ b. Rule (stepped s 0 (either b n x) id me.1 v keeps)) (sym (ne_eqb x 0 miss)) (unmoved s r id me.1 v at),
        ((λ z. absurd (miss z)), λ _. refl),
      ))

  pub begins : (slots id : ℕ) (me : M) → me.0.spent ≡ false → me.0.opened ≡ false → me.0.turn ≡ false
      → Allows Rule slots id me 0 (λ x. either (eqb x 0) 1 x) (begun (step slots 0 0 1 none) me)
  begins slots id me live shut idle s r _ at _ = let x : ℕ = word s in let v : K = me.0 in let fit = r.each id v at live in let shut' : r.opened ≡ false = sym fit.open_too ∙ shut in
      let alone = r.alone shut' in let none_has = nobody s r id v alone at live idle r.holder r.placed in let home = home_at s r.opened r.list r.holder none_has r.placed in let hit : x ≡ 0 = home.0 in
      let y : Option S = home.1.0 in let w : K = entered v r.list in let bare = blank r.opened r.list y shut' home.1.2 in let is : 1 ≡ v.number + 1 = omega (arith, zero_alone s r id v alone at live) in (
        w,
        takes 0 y,
        ap (λ hs. get_elem? hs 0) home.1.1,
        subst (λ b. Rule (stepped s 0 (either b 1 x) id me.1 w (takes 0 y))) (sym (eq-eqb x 0 hit)) (takes_turn s r id 1 me.1 v y at live is none_has home.1.1),
        (hit, λ i. (entered v (bare.1 i), (0, bare.0 i) ∷ me.1)),
      )

  other_holder : (s : St) (r : Rule s) (id j : ℕ) (d : K) → r.holder ≡ some id → j ≢ id → get_elem? s.views j ≡ some d → d.spent ≡ false → d.turn ≡ true → ⊥
  other_holder s r id j d h ne e live t = ne (some-injective j id (sym (r.turns j d e live t) ∙ h))

  opened_for : (s : St) (r : Rule s) (id j : ℕ) (v d : K) → get_elem? s.views id ≡ some v → v.spent ≡ false → j ≢ id → get_elem? s.views j ≡ some d → d.spent ≡ false → (o : Bool) → r.opened ≡ o → d.opened ≡ true
  opened_for s r id j v d at live ne e sd true o = (r.each j d e sd).open_too ∙ o
  opened_for s r id j v d at live ne e sd false o = absurd (only_one s r j id d v (r.alone o) e at sd live ne)

  gives_at : (slots id : ℕ) (v : K) (x : S) (added : List E) → v.spent ≡ false → v.turn ≡ true → v.name ≡ Some (name_of x) → legal (name_of x) (entries x) → kept x → entries x ≡ v.base ++ added → AreOf number v.number added
      → Allows Rule slots id (v, (0, Some x) ∷ []) 0 (λ _. 0) (λ _. given entries (step slots 0 0 0 none) (v, (0, Some x) ∷ []) 0)
  gives_at slots id v x added live has_it named allowed sound longer own s r _ at _ = let fit = r.each id v at live in let n : ℕ = v.number in let h = r.turns id v at live has_it in let away = away_at s r.opened r.list r.holder id v h at r.placed in
      let is_name : name_of x ≡ name = ap (name_or name) (sym named ∙ fit.named) in let new : List E = entries x in let w : K = gave v new in let wide = r.one_word in
      let grows : r.list ++ added ≡ new = ap (λ l. l ++ added) (sym away.1) ∙ sym longer in
      let starts : (seen : List E) → StartsWith r.list seen → StartsWith new seen = λ seen b. subst (λ (l : List E). StartsWith l seen) grows (starts_longer r.list seen added b) in
      let stays : (k : ℕ) → n ≢ k → of number k new ≡ of number k r.list = λ k ne. ap (of number k) (sym grows) ∙ of_added_other number n k r.list added own ne in
      let mine : n < last_number → of number n new ≡ v.mine ++ drop (length v.base) new = λ l.
      ap (of number n) (sym grows) ∙ (of_added_same number n r.list added own ∙ ((λ i. fit.own l i ++ added) ∙ ap (λ l. v.mine ++ l) (sym (ap (drop (length v.base)) longer ∙ drop-append_seam v.base added)))) in (
        w,
        gives,
        tt,
        moved s r id v w (set s.words 0 0) (set s.homes 0 (some (Some x))) new true none at (refl, refl, refl, refl, refl) (length-set s.words 0 0 ∙ r.one_word)
            (get_or-set_same s.words 0 0 0 (omega arith), (Some x, ap (λ hs. set hs 0 (some (Some x))) away.0, (is_name, refl, subst (λ (z : N). legal z new) is_name allowed, sound)))
            (λ j d ne e a. (
              (λ t. absurd (other_holder s r id j d h ne e a t)),
              (let f = r.each j d e a in record {
                named = f.named;
                open_too = opened_for s r id j v d at live ne e a r.opened refl;
                began = starts d.seen f.began;
                other = starts d.other f.other;
                small = f.small;
                own = λ l. stays d.number (λ q. apart s r j id d v ne e at a live l (sym q)) ∙ f.own l;
              }),
            ))
            (λ t. absurd (true≢false (sym t))) (record { named = fit.named; open_too = refl; began = starts_whole new; other = starts v.other fit.other; small = fit.small; own = mine }) (λ z. absurd (true≢false z))
            (λ k l none_has. stays k (λ q. let c : ℕ = count k s.views in let b : ℕ = has k v in let g : b ≤ c = count_one k s.views id v at in let u : b ≡ 1 = has_own k v live q in let z : c ≡ 0 = r.counted k ∙ none_has in absurd (omega arith))),
        λ x' e. let same : Some x ≡ Some x' = ap (said (Some x)) e in λ i. (gave v (entries (ap (some_or x) same i)), []),
      )
    where
      said : Option S → List (ℕ × Option S) → Option S
      said d [] = d
      said d (y ∷ ys) = y.1

      name_or : N → Option N → N
      name_or d (Some y) = y
      name_or d None = d

      some_or : S → Option S → S
      some_or d (Some y) = y
      some_or d None = d

  pub gives_it : (slots id : ℕ) (me : M) (x : S) (added : List E) → me.1 ≡ (0, Some x) ∷ [] → me.0.spent ≡ false → me.0.turn ≡ true → me.0.name ≡ Some (name_of x) → legal (name_of x) (entries x) → kept x → entries x ≡ me.0.base ++ added
      → AreOf number me.0.number added → Allows Rule slots id me 0 (λ _. 0) (λ _. given entries (step slots 0 0 0 none) me 0)
  gives_it slots id me x added held live has_it named allowed sound longer own = subst (λ (m : M). Allows Rule slots id m 0 (λ _. 0) (λ _. given entries (step slots 0 0 0 none) m 0)) (λ i. (me.0, sym held i))
      (gives_at slots id me.0 x added live has_it named allowed sound longer own)

  first_only : (a : K) (j : ℕ) (v : K) → get_elem? (a ∷ []) j ≡ some v → (j ≡ 0) × (a ≡ v)
  first_only a zero v e = (refl, some-injective a v e)
  first_only a (suc j) v e = absurd (some-ne-none v (sym e))

  one_most : (n k : ℕ) → one n k + 0 ≤ 1
  one_most n k = dite (ℕ_discrete n k) (λ e. let x : ℕ = one n k in let h : x ≡ 1 = ap (one n) (sym e) ∙ one_same n in let g : x + 0 ≤ 1 = omega arith in g) (λ ne. let x : ℕ = one n k in let h : x ≡ 0 = one_else n k ne in let g : x + 0 ≤ 1 = omega arith in g)

  pub starts : Rule (opening (0 ∷ []) (None ∷ []) (newcomer name))
  starts = let v : K = newcomer name in record {
    list = [];
    opened = false;
    holder = none;
    first = 0;
    lead = v;
    one_word = refl;
    leads = refl;
    head = (refl, refl);
    placed = (refl, (None, refl, refl));
    turns = λ j d e _ t. absurd (true≢false (sym t ∙ ap (λ (z : K). z.turn) (sym (first_only v j d e).1)));
    each = λ j d e _. subst (λ (z : K). Fit false [] z) (first_only v j d e).1 (record { named = refl; open_too = refl; began = ([], refl); other = ([], refl); small = omega arith; own = λ _. refl });
    alone = λ _. refl;
    counted = λ n. refl;
    once = λ n _. one_most n 0;
    others = λ n _ _. refl;
    fresh = λ n a _. ((let x : ℕ = one n 0 in let h : x ≡ 0 = one_else n 0 (λ e. omega arith) in let g : x + 0 ≡ 0 = omega arith in g), refl);
  }

  -- the state stays where it is, if the pass that has the turn stays as it was
  stays_placed : (s : St) (o : Bool) (list : List E) (views' : List K) → ((j : ℕ) (d : K) → get_elem? s.views j ≡ some d → d.turn ≡ true → get_elem? views' j ≡ some d)
      → (h : maybe.Option ℕ) → At s o list h → At (record { words = s.words; homes = s.homes; views = views' }) o list h
  stays_placed s o list views' same none p = p
  stays_placed s o list views' same (some j) p = (p.0, same j p.0 p.1 p.3, p.2, p.3, p.4, p.5, p.6)

  here : (vs : List K) (id : ℕ) (v w : K) → get_elem? vs id ≡ some v → get_elem? (set vs id w) id ≡ some w
  here [] id v w e = absurd (some-ne-none v (sym e))
  here (x ∷ xs) zero v w e = refl
  here (x ∷ xs) (suc id) v w e = here xs id v w e

  -- a pass that has the turn is not this one
  busy : (s : St) (id : ℕ) (v : K) → get_elem? s.views id ≡ some v → v.turn ≡ false → (j : ℕ) (d : K) → get_elem? s.views j ≡ some d → d.turn ≡ true → j ≢ id
  busy s id v at idle j d e t same = let is : d ≡ v = some-injective d v (sym e ∙ (ap (get_elem? s.views) same ∙ at)) in absurd (true≢false (sym t ∙ (ap (λ (z : K). z.turn) is ∙ idle)))

  -- the two lists begin one list, and the longer of them is kept
  pub settles : (slots id : ℕ) (me : M) → me.0.spent ≡ false → me.0.turn ≡ false → Allows Rule slots id me 0 (λ n. n) (settled (step slots 0 0 0 none) me)
  settles slots id me live idle s r _ at _ = let v : K = me.0 in let w : K = compared v in let fit = r.each id v at live in (
    w,
    keeps,
    tt,
    subst (λ (ws : List ℕ). Rule record { words = ws; homes = s.homes; views = set s.views id w }) (sym (set-get_or s.words 0 0))
        (moved s r id v w s.words s.homes r.list r.opened r.holder at (refl, refl, refl, refl, refl) r.one_word
        (stays_placed s r.opened r.list (set s.views id w) (λ j d e t. set_else s.views id j w (busy s id v at idle j d e t) ∙ e) r.holder r.placed)
        (λ j d ne e a. (r.turns j d e a, r.each j d e a)) (λ t. absurd (true≢false (sym t ∙ idle)))
        (record { named = fit.named; open_too = fit.open_too; began = starts_either r.list v.seen v.other fit.began fit.other; other = (r.list, refl); small = fit.small; own = fit.own })
        r.alone (λ _ _ _. refl)),
    (refl, one_order r.list v.seen v.other fit.began fit.other),
  )

  pub splits : (id : ℕ) (v : K) → v.spent ≡ false → v.number ≡ 0 → v.turn ≡ false → v.opened ≡ true → v.next ≤ last_number → Splits Rule id v (drew v) (another v)
  splits id v live null idle begun_too small s r at = let fit = r.each id v at live in let who = is_first s r id v at live null in let left : K = drew v in let right : K = another v in
      let vs : List K = set s.views id left in let new : ℕ = v.next in let out_is : r.lead.out ≡ v.out = ap (λ (z : K). z.out) (sym who.1) in let next_is : r.lead.next ≡ new = ap (λ (z : K). z.next) (sym who.1) in let back_is : r.lead.back ≡ v.back = ap (λ (z : K). z.back) (sym who.1) in
      let none_yet : (n : ℕ) → new ≤ n → n < last_number → (times n (0 ∷ v.out) ≡ 0) × (of number n r.list ≡ []) = λ n a l. let f = r.fresh n (subst (λ (k : ℕ). k ≤ n) (sym next_is) a) l in (ap (λ o. times n (0 ∷ o)) (sym out_is) ∙ f.0, r.others n l f.0 ∙ f.1) in
      let both : (F : ℕ → K → Type 0) → F id left → ((j : ℕ) → F j right) → ((j : ℕ) (d : K) → j ≢ id → get_elem? s.views j ≡ some d → F j d) → (j : ℕ) (d : K) → get_elem? (vs ++ right ∷ []) j ≡ some d → F j d
      = λ F l n o j d e. ⊎_elim (each_set F s.views id left l o j d) (λ (t : right ≡ d). subst (F j) t (n j)) (at_snoc vs right d j e) in record {
        list = r.list;
        opened = r.opened;
        holder = r.holder;
        first = id;
        lead = left;
        one_word = r.one_word;
        leads = at_longer vs (right ∷ []) id left (here s.views id v left at);
        head = (null, live);
        placed = stays_placed s r.opened r.list (vs ++ right ∷ []) (λ j d e t. at_longer vs (right ∷ []) j d (set_else s.views id j left (busy s id v at idle j d e t) ∙ e)) r.holder r.placed;
        turns = both (λ j d. d.spent ≡ false → d.turn ≡ true → r.holder ≡ some j) (λ _ t. absurd (true≢false (sym t ∙ idle))) (λ j _ t. absurd (true≢false (sym t))) (λ j d _ e. r.turns j d e);
        each = both (λ j d. d.spent ≡ false → Fit r.opened r.list d)
            (λ _. record { named = fit.named; open_too = fit.open_too; began = fit.began; other = fit.other; small = fit.small; own = fit.own })
            (λ j _. record { named = fit.named; open_too = fit.open_too; began = fit.began; other = (r.list, refl); small = small; own = λ l. (none_yet new (omega arith) l).1 })
            (λ j d _ e. r.each j d e);
        alone = λ z. absurd (true≢false (sym begun_too ∙ (fit.open_too ∙ z)));
        counted = λ n. let a : ℕ = count n (vs ++ right ∷ []) in let b : ℕ = count n vs in let c : ℕ = count n s.views in let d : ℕ = one n new in let o : ℕ = one n 0 in let t : ℕ = times n v.out in
            let x : a ≡ b + d = count_snoc n vs right in let y : b ≡ c = count_same n s.views id v left at refl in let z : c ≡ o + t = r.counted n ∙ ap (λ l. times n (0 ∷ l)) out_is in let g : a ≡ o + (d + t) = omega arith in g;
        once = λ n l. let d : ℕ = one n new in let o : ℕ = one n 0 in let t : ℕ = times n v.out in let old : o + t ≤ 1 = subst (λ (k : List ℕ). times n (0 ∷ k) ≤ 1) out_is (r.once n l) in
            dite (ℕ_discrete n new)
            (λ e. let f : o + t ≡ 0 = (none_yet n (omega arith) l).0 in let u : d ≡ 1 = ap (one n) (sym e) ∙ one_same n in let g : o + (d + t) ≤ 1 = omega arith in g)
            (λ ne. let u : d ≡ 0 = one_else n new ne in let g : o + (d + t) ≤ 1 = omega arith in g);
        others = λ n l z. let d : ℕ = one n new in let o : ℕ = one n 0 in let t : ℕ = times n v.out in let x : o + (d + t) ≡ 0 = z in let none : o + t ≡ 0 = omega arith in
            r.others n l (ap (λ k. times n (0 ∷ k)) out_is ∙ none) ∙ ap (mine_of n) back_is;
        fresh = λ n a l. let above : new < n = later new n a l in let f = none_yet n (omega arith) l in let b = r.fresh n (subst (λ (k : ℕ). k ≤ n) (sym next_is) (omega arith)) l in
            ((let d : ℕ = one n new in let o : ℕ = one n 0 in let t : ℕ = times n v.out in let x : o + t ≡ 0 = f.0 in let u : d ≡ 0 = one_else n new (λ e. omega arith) in let g : o + (d + t) ≡ 0 = omega arith in g), ap (mine_of n) (sym back_is) ∙ b.1);
      }
    where
      later : (k n : ℕ) → cond (eqb k last_number) last_number (k + 1) ≤ n → n < last_number → k < n
      later k n a l = dite (ℕ_discrete k last_number) (λ e. let h : last_number ≤ n = subst (λ b. cond b last_number (k + 1) ≤ n) (eq-eqb k last_number e) a in absurd (omega arith))
          (λ ne. let h : k + 1 ≤ n = subst (λ b. cond b last_number (k + 1) ≤ n) (ne_eqb k last_number ne) a in omega arith)

  pub joins : (id : ℕ) (v : K) (other : ℕ) (w : K) → v.spent ≡ false → v.number ≡ 0 → v.turn ≡ false → w.spent ≡ false → w.turn ≡ false → Joins Rule id v other w (took_in v w) gone
  joins id v other w live null idle live' idle' s r at apart_ids there = let both : K = took_in v w in let vs : List K = set s.views id both in let was : get_elem? s.views other ≡ some w = sym (set_else s.views id other both apart_ids) ∙ there in
      let fit = r.each id v at live in let fit' = r.each other w was live' in let who = is_first s r id v at live null in let k : ℕ = w.number in
      let out_is : r.lead.out ≡ v.out = ap (λ (z : K). z.out) (sym who.1) in let next_is : r.lead.next ≡ v.next = ap (λ (z : K). z.next) (sym who.1) in let back_is : r.lead.back ≡ v.back = ap (λ (z : K). z.back) (sym who.1) in
      let stands : 1 ≤ times k v.out = (let a : ℕ = has k v in let b : ℕ = has k w in let c : ℕ = count k s.views in let o : ℕ = one k 0 in let t : ℕ = times k v.out in
      let x : a + b ≤ c = count_two k s.views id other v w (λ e. apart_ids (sym e)) at was in let y : b ≡ 1 = has_own k w live' refl in let z : c ≡ o + t = r.counted k ∙ ap (λ l. times k (0 ∷ l)) out_is in
      let u : a ≡ o = (λ i. cond (live i) 0 (one k (null i))) in let g : 1 ≤ t = omega arith in g) in
      let less : (n : ℕ) → times n (0 ∷ without k v.out) + one n k ≡ times n (0 ∷ v.out) = λ n. let a : ℕ = times n (without k v.out) in let b : ℕ = one n k in let c : ℕ = times n v.out in let o : ℕ = one n 0 in
      let x : a + b ≡ c = times_without n k v.out stands in let g : (o + a) + b ≡ o + c = omega arith in g in
      let all : (F : ℕ → K → Type 0) → F id both → ((j : ℕ) → F j gone) → ((j : ℕ) (d : K) → j ≢ id → j ≢ other → get_elem? s.views j ≡ some d → F j d) → (j : ℕ) (d : K) → get_elem? (set vs other gone) j ≡ some d → F j d
      = λ F l n o. each_set F vs other gone (n other) (λ j d ne e. each_set (λ i x. i ≢ other → F i x) s.views id both (λ _. l) (λ i x ni f no. o i x ni no f) j d e ne) in record {
        list = r.list;
        opened = r.opened;
        holder = r.holder;
        first = id;
        lead = both;
        one_word = r.one_word;
        leads = set_else vs other id gone (λ e. apart_ids (sym e)) ∙ here s.views id v both at;
        head = (null, live);
        placed = stays_placed s r.opened r.list (set vs other gone) (λ j d e t. set_else vs other j gone (busy s other w was idle' j d e t) ∙ (set_else s.views id j both (busy s id v at idle j d e t) ∙ e)) r.holder r.placed;
        turns = all (λ j d. d.spent ≡ false → d.turn ≡ true → r.holder ≡ some j) (λ _ t. absurd (true≢false (sym t ∙ idle))) (λ j e _. absurd (true≢false e)) (λ j d _ _ e. r.turns j d e);
        each = all (λ j d. d.spent ≡ false → Fit r.opened r.list d)
            (λ _. record { named = fit.named; open_too = fit.open_too; began = fit.began; other = fit'.began; small = fit.small; own = fit.own })
            (λ j e. absurd (true≢false e)) (λ j d _ _ e. r.each j d e);
        alone = λ z. let none_out : v.out ≡ [] = sym out_is ∙ r.alone z in let h : 1 ≤ times k [] = subst (λ (l : List ℕ). 1 ≤ times k l) none_out stands in absurd (omega arith);
        counted = λ n. let a : ℕ = count n (set vs other gone) in let b : ℕ = has n w in let c : ℕ = count n vs in let d : ℕ = count n s.views in let m : ℕ = times n (0 ∷ without k v.out) in let t : ℕ = times n (0 ∷ v.out) in let q : ℕ = one n k in
            let x : a + b ≡ c + 0 = count_set n vs other w gone there in let y : c ≡ d = count_same n s.views id v both at refl in let z : d ≡ t = r.counted n ∙ ap (λ l. times n (0 ∷ l)) out_is in
            let u : b ≡ q = ap (λ c. cond c 0 (one n k)) live' in let l : m + q ≡ t = less n in let g : a ≡ m = omega arith in g;
        once = λ n l. let m : ℕ = times n (0 ∷ without k v.out) in let t : ℕ = times n (0 ∷ v.out) in let q : ℕ = one n k in let x : m + q ≡ t = less n in let y : t ≤ 1 = subst (λ (z : List ℕ). times n (0 ∷ z) ≤ 1) out_is (r.once n l) in let g : m ≤ 1 = omega arith in g;
        others = λ n l none. let m : ℕ = times n (0 ∷ without k v.out) in let t : ℕ = times n (0 ∷ v.out) in let q : ℕ = one n k in let x : m + q ≡ t = less n in let y : m ≡ 0 = none in
            dite (ℕ_discrete n k)
            (λ e. ap (λ i. of number i r.list) e ∙ (fit'.own (subst (λ (i : ℕ). i < last_number) e l) ∙ sym (ap (λ b. cond b w.mine (mine_of n v.back)) (eq-eqb n k e))))
            (λ ne. let u : q ≡ 0 = one_else n k ne in let z : t ≡ 0 = omega arith in
            r.others n l (ap (λ o. times n (0 ∷ o)) out_is ∙ z) ∙ (ap (mine_of n) back_is ∙ sym (ap (λ b. cond b w.mine (mine_of n v.back)) (ne_eqb n k ne))));
        fresh = λ n a l. let f = r.fresh n (subst (λ (z : ℕ). z ≤ n) (sym next_is) a) l in let m : ℕ = times n (0 ∷ without k v.out) in let t : ℕ = times n (0 ∷ v.out) in let q : ℕ = one n k in
            let x : m + q ≡ t = less n in let y : t ≡ 0 = ap (λ z. times n (0 ∷ z)) (sym out_is) ∙ f.0 in let g : m ≡ 0 = omega arith in
            let ne : n ≢ k = λ e. (let u : q ≡ 1 = ap (one n) (sym e) ∙ one_same n in let h : ⊥ = omega arith in h) in
            (g, ap (λ b. cond b w.mine (mine_of n v.back)) (ne_eqb n k ne) ∙ (ap (mine_of n) (sym back_is) ∙ f.1));
      }

  -- the last state: the first pass has every other pass back
  pub closes : (id : ℕ) (v : K) (ws : List ℕ) (xs : List (Option S)) → v.spent ≡ false → v.number ≡ 0 → v.turn ≡ false → v.opened ≡ true → v.out ≡ []
      → Final (Seen Rule id v) ws xs → (x : S) × (get_elem? xs 0 ≡ some (Some x)) × Took name_of entries legal kept number v x
  closes id v ws xs live null idle begun_too none_out f = let s : St = f.0 in let r = f.1.0 in let at = f.1.1 in let fit = r.each id v at live in let who = is_first s r id v at live null in
      let out_is : r.lead.out ≡ [] = ap (λ (z : K). z.out) (sym who.1) ∙ none_out in let home = home_at s r.opened r.list r.holder (nobody s r id v out_is at live idle r.holder r.placed) r.placed in
      let it = shown r.opened r.list home.1.0 (sym fit.open_too ∙ begun_too) home.1.2 in let same : r.list ≡ entries it.0 = sym it.3 in (
        it.0,
        f.4 0 (Some it.0) (ap (λ hs. get_elem? hs 0) home.1.1 ∙ ap (λ (z : Option S). some (some z)) it.1),
        record {
          named = fit.named ∙ ap Some (sym it.2);
          allowed = subst (λ (z : N × List E). legal z.0 z.1) (λ i. (sym it.2 i, same i)) it.4;
          keeps = it.5;
          began = subst (λ (l : List E). StartsWith l v.seen) same fit.began;
          own = λ l. ap (of number v.number) (sym same) ∙ fit.own l;
          alone = λ _ none. subst (HasAll number (all_passes v)) same (has_all s r id v at live null none);
        },
      )
