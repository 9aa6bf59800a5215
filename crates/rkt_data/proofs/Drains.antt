-- Reading on behind the bytes of a buffer.
use Rattle.std.specs.Option.{ForSome}
use Rattle.std.proofs.Common.{◌≡◌, ℕ, ◌+◌, ◌≤◌, ◌++◌, ◌∙◌, ◌<◌, Bool, false, true, List, [], length, take, drop, Option, Result, Ok, refl, sym, ap, ap₂, arith, append_assoc, append-nil, length-append, length-drop, length-take-le, take_all, take-add, drop-drop}
use Rattle.std.specs.Prelude.{nat_le}
use Rattle.rkt_base.specs.declared.poll.Poll.{Poll}
use Rattle.rkt_base.specs.declared.poll.Poll.TheVariants.{Ready}
use Rattle.std.proofs.lemmas.Bool.{leb-true, leb-false}
use Rattle.std.proofs.lemmas.List.{drop-take}
use Rattle.rkt_data.specs.Gathering.{Gained, Gathered, Draws, IsUsedUp, Completes}
use Rattle.rkt_source.specs.Source.{Meaning, Polled}
use Rattle.rkt_data.specs.Stream.{AsksOnce, Opened, Piped, room_for, Follows, TakesAtMost, IsComplete, whole_of}
use Rattle.rkt_data.specs.CountedSource.{ByGate, Ending, ended, ending_of, gave}
use Rattle.rkt_data.specs.declared.capped.N.{N}
use Rattle.rkt_source.specs.declared.source.Gate.{Gate}
use Rattle.rkt_source.specs.declared.source.SourceError.{SourceError}
use Rattle.rkt_data.proofs.Pulls.{front_of, same_front}
use Rattle.rkt_data.proofs.CountedSources.{ByGate-refl, ByGate-trans, ByGate-over, ByGate-once, ByGate-gave, ByGate-unmet, SameTap-refl, SameTap-trans, body_same}

pub Follows-refl : {S : Type 0} (meaning : S → Meaning) (trip : Option ℕ) (a : Opened S) → Follows meaning trip a a
Follows-refl meaning trip a = record { front = refl; limit = refl; tap = SameTap-refl meaning trip a.tap }

pub Follows-trans : {S : Type 0} {meaning : S → Meaning} {trip : Option ℕ} {a b c : Opened S} → Follows meaning trip a b → Follows meaning trip b c → Follows meaning trip a c
Follows-trans {meaning = meaning} {trip = trip} {a = a} {b = b} {c = c} p q = record { front = q.front ∙ p.front; limit = q.limit ∙ p.limit; tap = SameTap-trans meaning trip a.tap b.tap c.tap p.tap q.tap }

-- the body stays the same
pub whole_same : {S : Type 0} {meaning : S → Meaning} {trip : Option ℕ} {a b : Opened S} → Follows meaning trip a b → whole_of meaning b ≡ whole_of meaning a
whole_same {meaning = meaning} {trip = trip} {a = a} {b = b} p = rw p.front (body_same meaning trip a.front a.tap b.tap p.tap)

pub Gained-none : {S : Type 0} {meaning : S → Meaning} {o p : Opened S} → p.given ≡ o.given → Gained meaning o p []
Gained-none e = record { count = omega (arith, e); bytes = λ b t. refl }

pub Gained-trans : {S : Type 0} {meaning : S → Meaning} {trip : Option ℕ} {o p q : Opened S} {xs ys : List ℕ} → Follows meaning trip o p → Gained meaning o p xs → Gained meaning p q ys → Gained meaning o q (xs ++ ys)
Gained-trans {o = o} {p = p} {xs = xs} {ys = ys} f g h = record {
  count = rw length-append (omega (arith, g.count, h.count));
  bytes = λ b t.
      rw length-append (ap₂ (λ x y. x ++ y) (g.bytes b t) (h.bytes b (whole_same f ∙ t) ∙ ap (take (length ys)) (ap (λ i. drop i b) g.count ∙ sym (drop-drop (length xs) o.given b))) ∙ sym (take-add (length xs) (length ys) (drop o.given b)));
}

-- what a read of n bytes gained
pub Gained-read : {S : Type 0} {meaning : S → Meaning} {o p : Opened S} (n : ℕ) (buf : List ℕ) → n ≤ length buf → p.given ≡ o.given + n → ForSome (whole_of meaning o) (λ b. take n buf ≡ take n (drop o.given b)) → Gained meaning o p (take n buf)
Gained-read {o = o} n buf h e y = record {
  count = rw (length-take-le n buf h) e;
  bytes = λ b t. y b t ∙ ap (λ i. take i (drop o.given b)) (sym (length-take-le n buf h));
}

pub Draws-start : {S : Type 0} (meaning : S → Meaning) (polled : Polled S) (gate : Gate) (o : Piped S) (old : List ℕ) → o.probed ≡ false → TakesAtMost meaning o.opened o.opened.limit → Draws meaning polled gate gave o o old old
Draws-start meaning polled gate o old h bound = record {
  follows = Follows-refl meaning gate.tripped o.opened;
  by_gate = ByGate-refl polled gate o.opened.tap;
  bound = bound;
  not_probed = h;
  gained = ([], sym (append-nil old), Gained-none refl);
  unmet = λ full over. ByGate-refl polled gate o.opened.tap;
}

pub Draws-trans : {S : Type 0} {meaning : S → Meaning} {polled : Polled S} {gate : Gate} {how : Ending} {o p q : Piped S} {old mid new : List ℕ} → Draws meaning polled gate gave o p old mid → Draws meaning polled gate how p q mid new → Draws meaning polled gate how o q old new
Draws-trans {polled = polled} {gate = gate} {how = how} {o = o} {p = p} {q = q} {old = old} d e = record {
  follows = Follows-trans d.follows e.follows;
  by_gate = ByGate-trans polled gate how o.opened.tap p.opened.tap q.opened.tap d.by_gate e.by_gate;
  bound = e.bound;
  not_probed = e.not_probed;
  gained = (d.gained.0 ++ e.gained.0, e.gained.1 ∙ ap (λ z. z ++ e.gained.0) d.gained.1 ∙ append_assoc old d.gained.0 e.gained.0, Gained-trans d.follows d.gained.2 e.gained.2);
  unmet = λ full over. ByGate-trans polled gate gave o.opened.tap p.opened.tap q.opened.tap d.by_gate (e.unmet full over);
}

-- reads that gave bytes, behind which there may be no more
pub Draws-over : {S : Type 0} {meaning : S → Meaning} {polled : Polled S} {gate : Gate} {o p : Piped S} {old new : List ℕ} → Draws meaning polled gate gave o p old new → Draws meaning polled gate ended o p old new
Draws-over {polled = polled} {gate = gate} {o = o} {p = p} d = record {
  follows = d.follows;
  by_gate = ByGate-over polled gate true o.opened.tap p.opened.tap d.by_gate;
  bound = d.bound;
  not_probed = d.not_probed;
  gained = d.gained;
  unmet = λ full over. d.by_gate;
}

closed_by : {S : Type 0} (t : Bool) {meaning : S → Meaning} {polled : Polled S} {gate : Gate} {o p q : Piped S} {old new : List ℕ} (answer : Poll (Result Bool SourceError)) → Draws meaning polled gate ended o p old new
    → (p.opened.given < p.opened.limit → (q ≡ p) × (answer ≡ Ready (Ok true))) → ByGate polled gate (ending_of answer) p.opened.tap q.opened.tap → nat_le p.opened.limit p.opened.given ≡ t → ByGate polled gate (ending_of answer) o.opened.tap q.opened.tap
closed_by true {polled = polled} {gate = gate} {o = o} {p = p} {q = q} answer d below asks e =
    ByGate-trans polled gate (ending_of answer) o.opened.tap p.opened.tap q.opened.tap (d.unmet (leb-true p.opened.limit p.opened.given e) refl) asks
closed_by false {p = p} answer d below asks e = let same = below (leb-false p.opened.limit p.opened.given e) in rw (same.1, same.0) d.by_gate

-- behind all reads up to the limit it is learnt whether there is more; where the end may have been met nothing is read for that
pub Draws-closed : {S : Type 0} {meaning : S → Meaning} {polled : Polled S} {gate : Gate} {o p q : Piped S} {old new : List ℕ} (answer : Poll (Result Bool SourceError)) → Draws meaning polled gate ended o p old new
    → (p.opened.given < p.opened.limit → (q ≡ p) × (answer ≡ Ready (Ok true))) → ByGate polled gate (ending_of answer) p.opened.tap q.opened.tap → ByGate polled gate (ending_of answer) o.opened.tap q.opened.tap
Draws-closed {p = p} answer d below asks = closed_by (nat_le p.opened.limit p.opened.given) answer d below asks refl

-- a read into a buffer that was lent and has grown behind what it held
pub Draws-into : {S : Type 0} {meaning : S → Meaning} {polled : Polled S} {gate : Gate} {how : Ending} {o p q : Piped S} {old front lent new got : List ℕ} (n now : ℕ) (grown : List ℕ)
    → lent ≡ grown → take n grown ≡ front → got ≡ new → Draws meaning polled gate gave o p old front → Draws meaning polled gate how p q (take n lent) (take now new) → Draws meaning polled gate how o q old (take now got)
Draws-into n now grown e f h a b = rw h (Draws-trans a (rw (e, f) at b))

-- one read, into a buffer behind its first n bytes
pub Draws-read : {S : Type 0} {meaning : S → Meaning} {polled : Polled S} {gate : Gate} {o p q : Piped S} {old : List ℕ} (asked n k : ℕ) (room buf post : List ℕ) → Draws meaning polled gate gave o p old (take n room) → n ≤ length room → k ≤ length buf → 0 < k
    → Follows meaning gate.tripped p.opened q.opened → AsksOnce polled gate asked (Ready (Ok k)) p.opened q.opened → TakesAtMost meaning q.opened q.opened.limit → q.probed ≡ false
    → q.opened.given ≡ p.opened.given + k → ForSome (whole_of meaning p.opened) (λ b. take k buf ≡ take k (drop p.opened.given b))
    → Draws meaning polled gate gave o q old (take (n + k) (take n room ++ (buf ++ post)))
Draws-read {polled = polled} {gate = gate} {p = p} {q = q} asked n k room buf post d h l some f g bound off e y =
    let reads = ByGate-gave polled gate asked k p.opened q.opened some g in
    Draws-trans d record {
      follows = f;
      by_gate = reads;
      bound = bound;
      not_probed = off;
      gained = (take k buf, front_of n k (take n room) buf post (length-take-le n room h) l, Gained-read k buf l e y);
      unmet = λ full over. reads;
    }

-- one read that gave nothing
pub Draws-nothing : {S : Type 0} {meaning : S → Meaning} {polled : Polled S} {gate : Gate} {o p q : Piped S} {old : List ℕ} (answer : Poll (Result ℕ SourceError)) (size n : ℕ) (room buf post : List ℕ) → Draws meaning polled gate gave o p old (take n room) → n ≤ length room
    → Follows meaning gate.tripped p.opened q.opened → AsksOnce polled gate (room_for p.opened size) answer p.opened q.opened → TakesAtMost meaning q.opened q.opened.limit → q.probed ≡ false
    → q.opened.given ≡ p.opened.given → Draws meaning polled gate (ending_of answer) o q old (take n (take n room ++ (buf ++ post)))
Draws-nothing {polled = polled} {gate = gate} {p = p} {q = q} answer size n room buf post d h f g bound off e = Draws-trans d record {
  follows = f;
  by_gate = ByGate-once polled gate (room_for p.opened size) answer p.opened q.opened g;
  bound = bound;
  not_probed = off;
  gained = ([], same_front n room buf post h ∙ sym (append-nil (take n room)), Gained-none e);
  unmet = λ full over. ByGate-unmet polled gate size answer p.opened q.opened g e f.limit full;
}

-- what was gathered, and more
pub Gathered-more : {S : Type 0} {meaning : S → Meaning} {trip : Option ℕ} {o p : Opened S} {from : ℕ} {got more : List ℕ} → Gathered meaning o from got → Follows meaning trip o p → Gained meaning o p more → Gathered meaning p from (got ++ more)
Gathered-more {o = o} {from = from} {got = got} {more = more} h f g = record {
  count = rw length-append (omega (arith, h.count, g.count));
  bytes = λ b t.
      let u = sym (whole_same f) ∙ t in
      rw length-append (ap₂ (λ x y. x ++ y) (h.bytes b u) (g.bytes b u ∙ ap (take (length more)) (ap (λ i. drop i b) h.count ∙ sym (drop-drop (length got) from b))) ∙ sym (take-add (length got) (length more) (drop from b)));
}

-- bytes up to a limit, or up to the end before it
cut_by_test : (t : Bool) (from n limit : ℕ) (b : List ℕ) → from + n ≤ limit → (from + n < limit → length b ≤ from + n) → nat_le limit (from + n) ≡ t → take n (drop from b) ≡ drop from (take limit b)
cut_by_test true from n limit b h e q =
    let all : limit ≡ from + n = omega (arith, h, leb-true limit (from + n) q) in
    sym (drop-take from n b) ∙ ap (λ i. drop from (take i b)) (sym all)
cut_by_test false from n limit b h e q =
    let short : length b ≤ from + n = e (leb-false limit (from + n) q) in
    take_all n (drop from b) (omega (arith, short, length-drop from b)) ∙ ap (drop from) (sym (take_all limit b (omega (arith, short, h))))

pub cut_by_count : (from n limit : ℕ) (b : List ℕ) → from + n ≤ limit → (from + n < limit → length b ≤ from + n) → take n (drop from b) ≡ drop from (take limit b)
cut_by_count from n limit b h e = cut_by_test (nat_le limit (from + n)) from n limit b h e refl

-- several reads more
pub Gathered-drawn : {S : Type 0} {meaning : S → Meaning} {polled : Polled S} {gate : Gate} {how : Ending} {o p : Piped S} {from : ℕ} {old new : List ℕ} → Gathered meaning o.opened from old → Draws meaning polled gate how o p old new → Gathered meaning p.opened from new
Gathered-drawn h d = rw d.gained.1 (Gathered-more h d.follows d.gained.2)

-- what was gathered is the body up to the limit, once all of that was given
pub cut-gathered : {S : Type 0} {meaning : S → Meaning} {trip : Option ℕ} {o p : Opened S} {from : ℕ} {got : List ℕ} → Gathered meaning p from got → Follows meaning trip o p → IsUsedUp meaning p → p.given ≤ p.limit
    → ForSome (whole_of meaning o) (λ b. got ≡ drop from (take o.limit b))
cut-gathered {o = o} {p = p} {from = from} {got = got} h f u l = λ b t. let t' = whole_same f ∙ t in
    h.bytes b t' ∙ cut_by_count from (length got) p.limit b (omega (arith, h.count, l)) (λ q. omega (arith, h.count, u (omega (arith, h.count, q)) b t')) ∙ ap (λ i. drop from (take i b)) f.limit

-- so it is the value of a state that gathers
pub Completes-gathered : {S : Type 0} {meaning : S → Meaning} {trip : Option ℕ} {o p : Opened S} {from : ℕ} {got : List ℕ} (value : List ℕ) (n : N) → value ≡ got → n.written ≡ length got → Gathered meaning p from got → Follows meaning trip o p → IsUsedUp meaning p → p.given ≤ p.limit
    → ForSome (whole_of meaning o) (λ b. IsComplete n.complete b o.limit) → Completes meaning o from value n
Completes-gathered value n v e h f u l c = (e ∙ ap length (sym v), λ b t. (v ∙ cut-gathered h f u l b t, c b t))

-- a call that gave nothing
pub Gathered-same : {S : Type 0} {meaning : S → Meaning} {trip : Option ℕ} {o p : Opened S} {from : ℕ} {got : List ℕ} → Gathered meaning o from got → Follows meaning trip o p → p.given ≡ o.given → Gathered meaning p from got
Gathered-same h f e = record { count = e ∙ h.count; bytes = λ b t. h.bytes b (sym (whole_same f) ∙ t) }

pub IsUsedUp-same : {S : Type 0} {meaning : S → Meaning} {trip : Option ℕ} {o p : Opened S} → Follows meaning trip o p → p.given ≡ o.given → IsUsedUp meaning o → IsUsedUp meaning p
IsUsedUp-same f e u = λ less b t. let l = f.limit in omega (arith, e, u (omega (arith, e, l, less)) b (sym (whole_same f) ∙ t))
