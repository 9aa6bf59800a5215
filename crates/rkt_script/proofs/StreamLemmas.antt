-- A stream is read and written piece by piece.
use Rattle.std.proofs.Common.{◌≡◌, ◌≤◌, ◌+◌, ◌++◌, ◌⊎◌, inl, inr, ℕ, List, [], Bool, true, false, Option, Some, None, Result, Ok, Err, length, take, drop, refl, ap, ◌∙◌, sym, append_assoc, arith, length-append, append-nil}
use Rattle.std.proofs.Math.Seq.{take-add}
use Rattle.std.proofs.lemmas.Bool.{false≢true}
use Rattle.std.proofs.lemmas.List.{drop-drop}
use Rattle.std.proofs.lemmas.Grind.{common_steps}
use Rattle.std.specs.Option.{ForSome, IsSome, option_map}
use Rattle.std.specs.Bool.{IsTrue}
use Rattle.rkt_source.specs.Sink.{SinkMeaning, Gains}
use Rattle.rkt_source.specs.Source.{Meaning, Keeps, Gives, Polled}
use Rattle.std.specs.Result.{IsErrAnd}
use Rattle.rkt_source.specs.declared.source.Gate.{Gate}
use Rattle.rkt_script.specs.Streams.{Reads, ReadsAs, ReadsOn}
use Rattle.rkt_script.specs.declared.stream.StreamError.{StreamError}
use Rattle.rkt_script.specs.declared.stream.StreamError.TheVariants.{NoMemory}

no_warning : (warned : Bool) → warned ≡ false → IsTrue warned ⊎ IsSome {T = ℕ} None → ⊥
no_warning warned is (inl h) = false≢true (sym is ∙ h)
no_warning warned is (inr h) = false≢true h

is_false : (b : Bool) → (IsTrue b → ⊥) → b ≡ false
is_false true absent = absurd (absent refl)
is_false false _ = refl

-- nothing warns a source but a trip
pub still_unwarned : (m n : Meaning) → Keeps None m n → m.warned ≡ false → n.warned ≡ false
still_unwarned m n kept is = is_false n.warned (λ h. no_warning m.warned is (kept.warned h))

pub reads_none : (m n : Meaning) → Keeps None m n → m.warned ≡ false → n.taken ≡ m.taken → Reads m n []
reads_none m n kept unwarned taken = record {
  whole = kept.whole;
  next = λ w is. refl;
  taken = omega (arith, taken);
  faults = kept.faults;
  unwarned = still_unwarned m n kept unwarned;
}

pub reads_some : (m n : Meaning) (k : ℕ) (block : List ℕ) → Keeps None m n → m.warned ≡ false → k ≤ length block → n.taken ≡ m.taken + k
    → ForSome m.whole (λ w. Gives w m.taken k block) → Reads m n (take k block)
reads_some m n k block kept unwarned within taken gives =
    let counted : length (take k block) ≡ k = grind (arith, common_steps) in
    record {
      whole = kept.whole;
      next = λ w is. rw counted ((gives w is).0);
      taken = rw counted taken;
      faults = kept.faults;
      unwarned = still_unwarned m n kept unwarned;
    }

pub reads_more : (a b c : Meaning) (xs ys : List ℕ) → Reads a b xs → Reads b c ys → Reads a c (xs ++ ys)
reads_more a b c xs ys first second = record {
  whole = second.whole ∙ first.whole;
  next = λ w is.
      let one = first.next w is in
      let two = second.next w (first.whole ∙ is) in
      let there : drop b.taken w ≡ drop (length xs) (drop a.taken w) = ap (λ (n : ℕ). drop n w) first.taken ∙ sym (drop-drop (length xs) a.taken w) in
      ap (λ (l : List ℕ). l ++ ys) one ∙ ap (λ (l : List ℕ). take (length xs) (drop a.taken w) ++ l) (two ∙ ap (take (length ys)) there)
      ∙ sym (take-add (length xs) (length ys) (drop a.taken w)) ∙ ap (λ (n : ℕ). take n (drop a.taken w)) (sym (length-append xs ys));
  taken = omega (arith, first.taken, second.taken, length-append xs ys);
  faults = omega (arith, first.faults, second.faults);
  unwarned = second.unwarned;
}

option_gains : (a b c : Option (List ℕ)) (x y : List ℕ) → b ≡ option_map (λ h. h ++ x) a → c ≡ option_map (λ h. h ++ y) b → c ≡ option_map (λ h. h ++ (x ++ y)) a
option_gains None b c x y p q = q ∙ ap (option_map (λ (h : List ℕ). h ++ y)) p
option_gains (Some as') b c x y p q = q ∙ ap (option_map (λ (h : List ℕ). h ++ y)) p ∙ ap Some (append_assoc as' x y)

-- no bytes are behind those that it has
pub gains_none : (held : Option (List ℕ)) → held ≡ option_map (λ h. h ++ []) held
gains_none None = refl
gains_none (Some h) = ap Some (sym (append-nil h))

pub gains_more : (a b c : SinkMeaning) (bytes : List ℕ) (at n : ℕ) → Gains a b (take at bytes) → Gains b c (take n (drop at bytes)) → Gains a c (take (at + n) bytes)
gains_more a b c bytes at n first second =
    rw (take-add at n bytes) (option_gains a.held b.held c.held (take at bytes) (take n (drop at bytes)) first second)

-- where memory was wanting, no read was refused
pub no_memory_reads : {S X : Type 0} (polled : Polled S) (gate : Gate) (answer : Result X StreamError) (s t : S) → IsErrAnd answer (λ e. e ≡ NoMemory) → ReadsOn polled gate s t → ReadsAs polled gate answer s t
no_memory_reads polled gate (Ok x) s t h r = absurd h
no_memory_reads polled gate (Err e) s t h r = rw h (inl r)
