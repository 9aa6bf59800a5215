-- The bytes of the sources that a stream gives, joined.
use Rattle.std.specs.Option.{ForSome}
use Rattle.std.proofs.Common.{◌≡◌, ◌≢◌, ℕ, ◌+◌, ◌≤◌, ◌<◌, ◌++◌, ◌∙◌, ◌⊎◌, inl, inr, ⊎_elim, List, [], length, take, drop, Option, None, Some, Result, Ok, refl, sym, ap, subst, arith, le_refl, mul-le-mul_right, length-drop, length-take, length-take-le, length-append, drop-drop, append_assoc, take-append-drop}
use Rattle.std.proofs.lemmas.Bool.{false≢true}
use Rattle.std.proofs.lemmas.List.{nil_from_length, take-append-le, drop-append-le}
use Rattle.std.proofs.lemmas.List.Sums.{sum_by-cons}
use Rattle.rkt_base.specs.declared.poll.Poll.{Poll}
use Rattle.rkt_base.specs.declared.poll.Poll.TheVariants.{Ready, Pending}
use Rattle.rkt_source.specs.declared.source.Gate.{Gate}
use Rattle.rkt_source.specs.declared.source.SourceError.{SourceError}
use Rattle.rkt_source.specs.declared.source.SourceError.TheVariants.{SourceFault, Gone, TimedOut}
use Rattle.rkt_stream.specs.Flat.{Running, told_left, all_left, told_waits, bytes_left, GivesFresh, Goes, Advances, ReadsItem, Refuses}
use Rattle.rkt_stream.specs.Flow.{Flow, Flows, GivesOf, Shifts}
use Rattle.rkt_source.specs.Source.{Meaning, Polled, Keeps, Answers, left_of, both}
use Rattle.rkt_source.proofs.Sources.{mapped}

-- nothing is in front
both-nil : (o : Option (List ℕ)) → both (Some []) o ≡ o
both-nil None = refl
both-nil (Some l) = refl

-- each part is told where both are
both-told : (a b : Option (List ℕ)) (r : List ℕ) → both a b ≡ Some r → (x : List ℕ) × (y : List ℕ) × (a ≡ Some x) × (b ≡ Some y) × (x ++ y ≡ r)
both-told None b r e = absurd (cc)
both-told (Some x) None r e = absurd (cc)
both-told (Some x) (Some y) r e = (x, y, refl, refl, cc)

module _ {I : Type 0} (meaning : I → Meaning) where
  -- a source that is given takes its bytes along
  told_next : (r s : Option (List I)) (x : I) → Shifts r x s → ForSome (told_left meaning r) (λ w. both (left_of (meaning x)) (told_left meaning s) ≡ Some w)
  told_next None s x h = λ w e. absurd (cc)
  told_next (Some xs) s x h = λ w e. rw h.2 (ap (all_left meaning) (sym h.1) ∙ e)

  -- and its Pendings
  waits_next : (r s : Option (List I)) (x : I) (left less each : ℕ) → Shifts r x s → less < left → (r ≡ None → (meaning x).pendings ≤ each) → told_waits meaning less each s + (meaning x).pendings ≤ told_waits meaning left each r
  waits_next None s x left less each h fewer bound = let fits = bound refl in let more = mul-le-mul_right each fewer in rw h (omega (arith, fits, more))
  waits_next (Some xs) s x left less each h fewer bound = rw (h.2, h.1, sum_by-cons (λ z. (meaning z).pendings) x h.0) (omega arith)

  told_none : (r : Option (List I)) → ForSome r (λ xs. xs ≡ []) → ForSome (told_left meaning r) (λ w. w ≡ [])
  told_none None h = λ w e. absurd (cc)
  told_none (Some xs) h = λ w e. let none : all_left meaning xs ≡ Some [] = ap (all_left meaning) (h xs refl) in cc

  waits_fewer : (r : Option (List I)) (left less each : ℕ) → less ≤ left → told_waits meaning less each r ≤ told_waits meaning left each r
  waits_fewer None left less each h = mul-le-mul_right each h
  waits_fewer (Some xs) left less each h = le_refl _

rest_told : {I : Type 0} (r s : Option (List I)) (x : I) → Shifts r x s → s ≡ None → r ≡ None
rest_told None s x h e = refl
rest_told (Some xs) s x h e = absurd (cc (h.2))

-- the bytes that a source has still to give, where it gave none
left_same : {trip : Option ℕ} (m n : Meaning) → Keeps trip m n → n.taken ≡ m.taken → left_of n ≡ left_of m
left_same m n k e = rw (k.whole, e) refl

-- and where it gave k of them
left-after : (m n : Meaning) (k : ℕ) (w l : List ℕ) → n.whole ≡ m.whole → n.taken ≡ m.taken + k → m.whole ≡ Some w → drop m.taken w ≡ l → left_of n ≡ Some (drop k l)
left-after m n k w l same taken told is = rw (same, told, taken) (ap Some (sym (drop-drop k m.taken w) ∙ ap (drop k) is))

both-some : (a b : Option (List ℕ)) (x y : List ℕ) → a ≡ Some x → b ≡ Some y → both a b ≡ Some (x ++ y)
both-some a b x y p q = rw (p, q) refl

module _ {S I : Type 0} (flow : S → Flow I) (meaning : I → Meaning) (may : S → I → Type 0) where
  -- so far nothing was given, and the source that is read is untouched
  pub record Moves (trip : Option ℕ) (a b : Running S I) : Type 0 where
    pub goes : Goes flow meaning may trip a b
    pub bytes : ForSome (bytes_left flow meaning a) (λ r. bytes_left flow meaning b ≡ Some r)
    pub narrow : (x : I) → may b.stream x → may a.stream x
    pub origin : ForSome b.item (λ y. (a.item ≡ Some y) ⊎ may a.stream y)

  pub Moves-start : (trip : Option ℕ) (r : Running S I) → GivesFresh flow meaning may r.stream → Moves trip r r
  Moves-start trip r h = record { goes = record { waits = le_refl _; fresh = h; warned = λ w. inl w }; bytes = λ l e. e; narrow = λ x m. m; origin = λ y e. inl e }

  -- the stream gives the next source
  pub Moves-given : {trip : Option ℕ} {a : Running S I} (s t : S) (x : I) → Moves trip a (record { stream = s; item = None }) → Flows (flow s) (Ready (Some x)) (flow t) → GivesOf (may s) (may t) (Ready (Some x)) → Moves trip a (record { stream = t; item = Some x })
  Moves-given s t x m h k =
      let fresh = m.goes.fresh in
      let before = m.goes.waits in
      let bound = h.0.pendings in
      let waited = h.0.pended in
      let next = waits_next meaning (flow s).rest (flow t).rest x (flow s).left (flow t).left (flow s).pendings h.4 h.3 (fresh x k.0).1 in
      record {
        goes = record {
          waits = rw bound (omega (arith, before, waited, next));
          fresh = λ y q. let n = fresh y (k.1 y q) in (n.0, λ e. rw bound (n.1 (rest_told (flow s).rest (flow t).rest x h.4 e)));
          warned = λ z. absurd (false≢true (sym (fresh x k.0).0.0 ∙ z));
        };
        bytes = λ r e. told_next meaning (flow s).rest (flow t).rest x h.4 r (sym (both-nil (told_left meaning (flow s).rest)) ∙ m.bytes r e);
        narrow = λ y q. m.narrow y (k.1 y q);
        origin = λ y e. let same : x ≡ y = cc in inr (m.narrow y (subst (may s) same k.0));
      }

  -- the source that is read has ended
  pub Moves-ended : {trip : Option ℕ} {a : Running S I} (s : S) (x y : I) (k : ℕ) (old mid : List ℕ) → Moves trip a (record { stream = s; item = Some x }) → Answers (meaning x) (meaning y) old mid (Ready (Ok k)) → k ≡ 0 → 0 < length old → Moves trip a (record { stream = s; item = None })
  Moves-ended s x y k old mid m h none room =
      let before = m.goes.waits in
      record {
        goes = record { waits = omega (arith, before); fresh = m.goes.fresh; warned = λ z. absurd z };
        bytes = λ r e.
            let t = both-told (left_of (meaning x)) (told_left meaning (flow s).rest) r (m.bytes r e) in
            let w = mapped (meaning x).taken (meaning x).whole t.0 t.2 in
            let end = (h.2 room w.0 w.1).1 none in
            let empty : t.0 ≡ [] = nil_from_length t.0 (rw (← w.2) (omega (arith, end, length-drop (meaning x).taken w.0))) in
            both-nil (told_left meaning (flow s).rest) ∙ t.3 ∙ ap Some (sym (ap (λ l. l ++ t.1) empty) ∙ t.4);
        narrow = m.narrow;
        origin = λ z e. absurd (cc);
      }

  pub Goes-item : {trip : Option ℕ} {a : Running S I} (s : S) (x y : I) → Moves trip a (record { stream = s; item = Some x }) → Keeps trip (meaning x) (meaning y) → Goes flow meaning may trip a (record { stream = s; item = Some y })
  Goes-item s x y m k =
      let before = m.goes.waits in
      let bound = k.pendings in
      let waited = k.pended in
      record {
        waits = omega (arith, before, bound, waited);
        fresh = m.goes.fresh;
        warned = λ z. ⊎_elim m.goes.warned inr (k.warned z);
      }

  -- the source that is read gives some bytes
  pub Advances-gives : {trip : Option ℕ} {a : Running S I} (s : S) (x y : I) (k : ℕ) (old new : List ℕ) → Moves trip a (record { stream = s; item = Some x }) → Keeps trip (meaning x) (meaning y) → Answers (meaning x) (meaning y) old new (Ready (Ok k)) → k ≢ 0 → length new ≡ length old → 0 < length old
      → Advances flow meaning a (record { stream = s; item = Some y }) old new (Ready (Ok k))
  Advances-gives s x y k old new m keeps h some long room = (
    h.0,
    λ r e.
        let t = both-told (left_of (meaning x)) (told_left meaning (flow s).rest) r (m.bytes r e) in
        let w = mapped (meaning x).taken (meaning x).whole t.0 t.2 in
        let part = (h.2 room w.0 w.1).0 ∙ ap (take k) w.2 in
        let fits : k ≤ length t.0 = let lk = length-take-le k new (omega (arith, h.0, long)) in let same : length (take k new) ≡ length (take k t.0) = ap length part in omega (arith, lk, same, length-take k t.0) in
        let all : k ≤ length r = rw (← t.4, length-append) (omega (arith, fits)) in (
          part ∙ sym (take-append-le k t.0 t.1 fits) ∙ ap (take k) t.4,
          all,
          both-some _ _ (drop k t.0) t.1 (left-after (meaning x) (meaning y) k w.0 t.0 keeps.whole h.1 w.1 w.2) t.3 ∙ ap Some (sym (drop-append-le k t.0 t.1 fits) ∙ ap (drop k) t.4),
          λ z. absurd (some z),
        ),
  )

  -- the source that is read gives none
  pub same_bytes : {trip : Option ℕ} {a : Running S I} (s : S) (x y : I) → Moves trip a (record { stream = s; item = Some x }) → Keeps trip (meaning x) (meaning y) → (meaning y).taken ≡ (meaning x).taken → ForSome (bytes_left flow meaning a) (λ r. bytes_left flow meaning (record { stream = s; item = Some y }) ≡ Some r)
  same_bytes s x y m k e = λ r t. ap (λ l. both l (told_left meaning (flow s).rest)) (left_same (meaning x) (meaning y) k e) ∙ m.bytes r t

  pub Advances-waits : {trip : Option ℕ} {a : Running S I} (s : S) (x y : I) (old new : List ℕ) → Moves trip a (record { stream = s; item = Some x }) → Keeps trip (meaning x) (meaning y) → Answers (meaning x) (meaning y) old new Pending → Advances flow meaning a (record { stream = s; item = Some y }) old new Pending
  Advances-waits s x y old new m k h =
      let before = m.goes.waits in
      let bound = k.pendings in
      let low = h.1.0 in
      let high = h.1.1 in
      (same_bytes s x y m k h.0, omega (arith, before, bound, low, high))

  -- the stream gives none
  pub Goes-stream : {trip : Option ℕ} {a : Running S I} (s t : S) → Moves trip a (record { stream = s; item = None }) → (flow t).rest ≡ (flow s).rest → (flow t).left ≤ (flow s).left → (flow t).pendings ≡ (flow s).pendings → (flow s).pended ≤ (flow t).pended → ((x : I) → may t x → may s x) → Goes flow meaning may trip a (record { stream = t; item = None })
  Goes-stream s t m rest left bound waited narrow =
      let before = m.goes.waits in
      let fewer = waits_fewer meaning (flow s).rest (flow s).left (flow t).left (flow s).pendings left in
      record {
        waits = rw (rest, bound) (omega (arith, before, fewer, waited));
        fresh = λ y q. let n = m.goes.fresh y (narrow y q) in (n.0, λ e. rw bound (n.1 (sym rest ∙ e)));
        warned = λ z. absurd z;
      }

  pub Advances-end : {trip : Option ℕ} {a : Running S I} (s t : S) (old new : List ℕ) → Moves trip a (record { stream = s; item = None }) → Flows (flow s) (Ready None) (flow t) → Advances flow meaning a (record { stream = t; item = None }) old new (Ready (Ok 0))
  Advances-end s t old new m h = (
    omega arith,
    λ r e.
        let left = sym (both-nil (told_left meaning (flow s).rest)) ∙ m.bytes r e in
        let none : r ≡ [] = told_none meaning (flow s).rest h.4 r left in
        (refl, omega arith, both-nil (told_left meaning (flow t).rest) ∙ ap (told_left meaning) h.2 ∙ left, λ z. none),
  )

  pub Advances-stalls : {trip : Option ℕ} {a : Running S I} (s t : S) (old new : List ℕ) → Moves trip a (record { stream = s; item = None }) → Flows (flow s) Pending (flow t) → Advances flow meaning a (record { stream = t; item = None }) old new Pending
  Advances-stalls s t old new m h =
      let before = m.goes.waits in
      let low = h.2 in
      let high = h.3 in
      rw h.0 (λ r e. m.bytes r e, omega (arith, before, low, high))

-- the source that is read was read once more
pub ReadsItem-read : {S I : Type 0} (polled : Polled I) (may : S → I → Type 0) (gate : Gate) (room : ℕ) (answer : Poll (Result ℕ SourceError)) (a : Running S I) (x y : I) → (a.item ≡ Some x) ⊎ may a.stream x → polled x gate room answer y → ReadsItem polled may gate room answer a (Some y)
ReadsItem-read polled may gate room answer a x y origin h = λ z e. let same : y ≡ z = cc in (x, origin, subst (polled x gate room answer) same h)

-- the first k of the bytes that were left were given
pub split_more : (w given rest : List ℕ) (taken k : ℕ) (left : Option (List ℕ)) → w ≡ given ++ rest → length given ≡ taken → k ≤ length rest → left ≡ Some (drop k rest)
    → (g : List ℕ) × (r : List ℕ) × (left ≡ Some r) × (w ≡ g ++ r) × (length g ≡ taken + k)
split_more w given rest taken k left parts count fits told = (
  given ++ take k rest,
  drop k rest,
  told,
  parts ∙ ap (λ l. given ++ l) (sym (take-append-drop k rest)) ∙ sym (append_assoc given (take k rest) (drop k rest)),
  length-append given (take k rest) ∙ omega (arith, count, length-take-le k rest fits),
)

-- a refusal that is no fault
pub refused_by : {I : Type 0} (meaning : I → Meaning) (polled : Polled I) (gate : Gate) (room : ℕ) (item : Option I) (e : SourceError) → (e ≡ SourceFault → ⊥) → Refuses meaning polled gate room item e → Refuses meaning polled gate room item Gone ⊎ Refuses meaning polled gate room item TimedOut
refused_by meaning polled gate room item SourceFault other h = absurd (other refl)
refused_by meaning polled gate room item Gone other h = inl h
refused_by meaning polled gate room item TimedOut other h = inr h
