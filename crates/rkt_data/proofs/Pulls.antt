-- Several reads, one after another.
use Rattle.std.specs.Option.{ForSome}
use Rattle.std.proofs.Common.{◌≡◌, ℕ, ◌+◌, ◌≤◌, ◌++◌, ◌∙◌, inl, inr, ⊎_elim, List, length, take, drop, Option, refl, sym, ap, ap₂, rules, arith, le_refl, le_trans, length-append, length-take-le, take_at, take-add, drop-drop}
use Rattle.std.proofs.Math.Seq.{take-append-add}
use Rattle.std.proofs.lemmas.List.{take-append-le}
use Rattle.rkt_source.specs.Source.{Meaning, Keeps, Gives}
use Rattle.rkt_source.proofs.Sources.{Keeps-trans}
use Rattle.rkt_data.specs.CountedSource.{Pulled, Gave}

-- the front of two parts and a rest
pub front_of : {A : Type 0} (n k : ℕ) (xs buf post : List A) → length xs ≡ n → k ≤ length buf → take (n + k) (xs ++ (buf ++ post)) ≡ xs ++ take k buf
front_of n k xs buf post e l = rw (← e) (take-append-add xs (buf ++ post) k ∙ ap (λ ys. xs ++ ys) (take-append-le k buf post l))

more_bytes : (n k : ℕ) (room buf post z : List ℕ) → n ≤ length room → k ≤ length buf → take n room ≡ take n z → take k buf ≡ take k (drop n z)
    → take (n + k) (take n room ++ (buf ++ post)) ≡ take (n + k) z
more_bytes n k room buf post z h l p q = front_of n k (take n room) buf post (length-take-le n room h) l ∙ ap₂ (λ xs ys. xs ++ ys) p q ∙ sym (take-add n k z)

pub same_front : (n : ℕ) (room buf post : List ℕ) → n ≤ length room → take n (take n room ++ (buf ++ post)) ≡ take n room
same_front n room buf post h = take_at (take n room) (buf ++ post) n (length-take-le n room h)

pub Pulled-more : {trip : Option ℕ} {m n o : Meaning} {k : ℕ} {room : List ℕ} (j : ℕ) (buf post : List ℕ) → Pulled trip m n k room → Keeps trip n o → o.taken ≡ n.taken + j
    → ForSome n.whole (λ w. Gives w n.taken j buf) → j ≤ length buf → k + j ≤ length (take k room ++ (buf ++ post)) → Pulled trip m o (k + j) (take k room ++ (buf ++ post))
Pulled-more {m = m} {n = n} {k = k} {room = room} j buf post p q e b l h = record {
  kept = Keeps-trans p.kept q;
  taken = omega (arith, p.taken, e);
  bytes = λ w t. more_bytes k j room buf post (drop m.taken w) p.within l (p.bytes w t) ((b w (p.kept.whole ∙ t)).0 ∙ ap (take j) (ap (λ i. drop i w) p.taken ∙ sym (drop-drop k m.taken w)));
  within = h;
}

pub Gave-more : {trip : Option ℕ} {m n o : Meaning} (k j : ℕ) (room buf post : List ℕ) → Gave m n (take k room) → Pulled trip n o j buf → k ≤ length room
    → Gave m o (take (k + j) (take k room ++ (buf ++ post)))
Gave-more {m = m} {n = n} {o = o} k j room buf post g p h =
    let lk : length (take k room) ≡ k = length-take-le k room h in
    let lj : length (take j buf) ≡ j = length-take-le j buf p.within in
    let whole : take (k + j) (take k room ++ (buf ++ post)) ≡ take k room ++ take j buf = front_of k j (take k room) buf post lk p.within in
    let front : (w : List ℕ) → o.whole ≡ Rattle.std.proofs.Common.Some w → take k room ++ take j buf ≡ take (k + j) (drop m.taken w) =
    λ w e. ap₂ (λ xs ys. xs ++ ys) (g.bytes w (sym p.kept.whole ∙ e) ∙ ap (λ i. take i (drop m.taken w)) lk)
    (p.bytes w (sym p.kept.whole ∙ e) ∙ ap (take j) (ap (λ i. drop i w) (g.taken ∙ ap (λ i. m.taken + i) lk) ∙ sym (drop-drop k m.taken w))) ∙ sym (take-add k j (drop m.taken w)) in
    let long : length (take k room ++ take j buf) ≡ k + j = length-append (take k room) (take j buf) ∙ ap₂ (λ a b. a + b) lk lj in
    rw whole record {
      taken = omega (arith, p.taken, g.taken, lk, long);
      whole = p.kept.whole ∙ g.whole;
      bytes = λ w e. front w e ∙ ap (λ i. take i (drop m.taken w)) (sym long);
    }
