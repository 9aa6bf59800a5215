-- What may follow a front of a text, and where a text leaves its grammar.
use Rattle.std.proofs.Common.{◌≡◌, ℕ, zero, suc, ◌+◌, ◌<◌, ◌≤◌, List, [], ◌∷◌, ◌++◌, length, take, get_or, refl, sym, ◌∙◌, ap, subst, arith, append_assoc, add-one, inl, inr, ◌⊎◌, ◌↔◌, Option, Some, None, MatchOption}
use Rattle.std.proofs.Math.Seq.{take-suc}
use Rattle.rkt_grammar.specs.Grammar.{Begins, LeavesAt}

-- B is what may follow the front in a text of A
abbrev pub Follows : (List ℕ → Type 0) → List ℕ → (List ℕ → Type 0) → Type 0
Follows A front B = (rest : List ℕ) → B rest ↔ A (front ++ rest)

-- an equivalence along equations of lists
turned : (A : List ℕ → Type 0) (x y : List ℕ) → x ≡ y → A x → A y
turned A x y e h = subst A e h

le-or-gt : (n i : ℕ) → (n ≤ i) ⊎ (i < n)
le-or-gt zero i = inl (omega arith)
le-or-gt (suc n) zero = inr (omega arith)
le-or-gt (suc n) (suc i) = elim (le-or-gt n i) [ inl le ↦ inl (omega arith) | inr gt ↦ inr (omega arith) ]

pub follows_start : (A : List ℕ → Type 0) → Follows A [] A
follows_start A rest = (λ h. h, λ h. h)

pub follows_more : (A B C : List ℕ → Type 0) (text : List ℕ) (i b : ℕ) → i < length text → get_or text i 0 ≡ b → Follows A (take i text) B
    → ((rest : List ℕ) → C rest ↔ B (b ∷ rest)) → Follows A (take (i + 1) text) C
follows_more A B C text i b within is behind next rest =
    let grown : take (i + 1) text ≡ take i text ++ b ∷ [] = rw (add-one, ← is) (take-suc text i 0 within) in
    let joined : take (i + 1) text ++ rest ≡ take i text ++ (b ∷ rest) = ap (λ (x : List ℕ). x ++ rest) grown ∙ append_assoc (take i text) (b ∷ []) rest in
    (λ h. turned A _ _ (sym joined) ((behind (b ∷ rest)).0 ((next rest).0 h)), λ h. (next rest).1 ((behind (b ∷ rest)).1 (turned A _ _ joined h)))

-- a longer front goes on with the byte there
longer : (text : List ℕ) (i b n : ℕ) → i < n → n ≤ length text → get_or text i 0 ≡ b → (tail : List ℕ) × (take n text ≡ take i text ++ (b ∷ tail))
longer [] i b n more within is = absurd (omega arith)
longer (x ∷ xs) i b zero more within is = absurd (omega arith)
longer (x ∷ xs) zero b (suc n) more within is = (take n xs, ap (λ (y : ℕ). y ∷ take n xs) is)
longer (x ∷ xs) (suc i) b (suc n) more within is =
    let t = longer xs i b n (omega arith) (omega arith) is in (t.0, ap (λ (ys : List ℕ). x ∷ ys) t.1)

-- the place is not reached where the byte there is wrong
stops : (A B : List ℕ → Type 0) (text : List ℕ) (i b : ℕ) → get_or text i 0 ≡ b → Follows A (take i text) B
    → ((rest : List ℕ) → ¬ B (b ∷ rest)) → (n : ℕ) → i < n → n ≤ length text → (rest : List ℕ) → ¬ A (take n text ++ rest)
stops A B text i b is behind none n more within rest begun =
    let t = longer text i b n more within is in
    let joined : take n text ++ rest ≡ take i text ++ (b ∷ (t.0 ++ rest)) =
    ap (λ (x : List ℕ). x ++ rest) t.1 ∙ append_assoc (take i text) (b ∷ t.0) rest in
    none (t.0 ++ rest) ((behind (b ∷ (t.0 ++ rest))).1 (turned A _ _ joined begun))

whole : (text : List ℕ) → take (length text) text ≡ text
whole [] = refl
whole (x ∷ xs) = ap (λ (ys : List ℕ). x ∷ ys) (whole xs)

append_nil : (xs : List ℕ) → xs ++ [] ≡ xs
append_nil [] = refl
append_nil (x ∷ xs) = ap (λ (ys : List ℕ). x ∷ ys) (append_nil xs)

-- the text leaves A where B is what may follow, and no text of B begins with the byte there
pub leaves : (A B : List ℕ → Type 0) (text : List ℕ) (i b : ℕ) → i < length text → get_or text i 0 ≡ b → Follows A (take i text) B
    → Begins B [] → ((rest : List ℕ) → ¬ B (b ∷ rest)) → LeavesAt A text i
leaves A B text i b within is behind some none = record {
  outside = λ h. stops A B text i b is behind none (length text) within (omega arith) [] (turned A _ _ (sym (append_nil _ ∙ whole text)) h);
  within = omega arith;
  begins = (some.0, (behind some.0).0 some.1);
  longest = λ n fits begun. elim (le-or-gt n i) [ inl le ↦ le | inr gt ↦ absurd (stops A B text i b is behind none n gt fits begun.0 begun.1) ];
}

-- the text ends where B is what may follow, and B has no empty text
pub leaves_at_end : (A B : List ℕ → Type 0) (text : List ℕ) → Follows A text B → Begins B [] → ¬ B [] → LeavesAt A text (length text)
leaves_at_end A B text behind some none = record {
  outside = λ h. none ((behind []).1 (turned A _ _ (sym (append_nil text)) h));
  within = omega arith;
  begins = (some.0, turned A _ _ (ap (λ (x : List ℕ). x ++ some.0) (sym (whole text))) ((behind some.0).0 some.1));
  longest = λ n fits begun. fits;
}

-- the text ends where B is what may follow, and B has the empty text
pub ends_well : (A B : List ℕ → Type 0) (text : List ℕ) → Follows A text B → B [] → A text
ends_well A B text behind empty = turned A _ _ (append_nil text) ((behind []).0 empty)

-- what follows all of a text
pub follows_all : (A B : List ℕ → Type 0) (text : List ℕ) (n : ℕ) → n ≡ length text → Follows A (take n text) B → Follows A text B
follows_all A B text n is behind = let P : List ℕ → Type 0 = λ front. Follows A front B in subst P (ap (λ (k : ℕ). take k text) is ∙ whole text) behind

-- what an option says, where it is known
pub at_some : {T : Type 0} (o : Option T) (x : T) (P : Type 0) (Q : T → Type 0) → o ≡ Some x → MatchOption o P Q → Q x
at_some {T} o x P Q is h = let M : Option T → Type 0 = λ o. MatchOption o P Q in subst M is h

pub at_none : {T : Type 0} (o : Option T) (P : Type 0) (Q : T → Type 0) → o ≡ None → MatchOption o P Q → P
at_none {T} o P Q is h = let M : Option T → Type 0 = λ o. MatchOption o P Q in subst M is h
