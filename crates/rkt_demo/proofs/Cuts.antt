-- Only the first bytes of a script decide which line is the first bad one.
use Rattle.std.proofs.Common.{zero, suc, ◌≡◌, ◌<◌, ◌≤◌, ◌+◌, ◌-◌, ◌⊎◌, inl, inr, ℕ, List, [], ◌∷◌, Bool, true, false, ◌==◌, length, take, refl, ap, ◌∙◌, sym, subst, arith}
use Rattle.std.specs.List.{onto_first}
use Rattle.std.proofs.lemmas.Bool.{cases_lt}
use Rattle.std.proofs.lemmas.Grind.{common_steps}
use Rattle.rkt_script.specs.Script.{lines_of, AreGood, IsFirstBad, Lead}
use Rattle.rkt_script.specs.declared.script.ScriptRequest.{ScriptRequest}

-- the first line of a text, and what is left of it in each front of the text
record FirstLine (text : List ℕ) : Type 0 where
  pub line : List ℕ
  pub rest : List ℕ
  pub size : length text ≡ length line + length rest
  pub some : 0 < length line
  pub first : lines_of text ≡ line ∷ lines_of rest
  pub whole : (n : ℕ) → length line ≤ n → lines_of (take n text) ≡ line ∷ lines_of (take (n - length line) rest)
  pub part : (n : ℕ) → 0 < n → n ≤ length line → lines_of (take n text) ≡ take n text ∷ []

feed : (b : ℕ) (bs : List ℕ) → (b == 10) ≡ true → lines_of (b ∷ bs) ≡ (b ∷ []) ∷ lines_of bs
feed b bs is = rw is refl

other : (b : ℕ) (bs : List ℕ) → (b == 10) ≡ false → lines_of (b ∷ bs) ≡ onto_first b (lines_of bs)
other b bs is = rw is refl

abbrev nothing : List ℕ
nothing = []

take_nothing : (n : ℕ) → take n nothing ≡ nothing
take_nothing zero = refl
take_nothing (suc n) = refl

one : (b : ℕ) (t : Bool) → (b == 10) ≡ t → lines_of (b ∷ []) ≡ (b ∷ []) ∷ []
one b true is = feed b [] is
one b false is = other b [] is

ends_here : (b : ℕ) (bs : List ℕ) → (b == 10) ≡ true → FirstLine (b ∷ bs)
ends_here b bs is = record {
  line = b ∷ [];
  rest = bs;
  size = omega arith;
  some = omega arith;
  first = feed b bs is;
  whole = whole;
  part = part;
}
  where
    whole : (n : ℕ) → 1 ≤ n → lines_of (take n (b ∷ bs)) ≡ (b ∷ []) ∷ lines_of (take (n - 1) bs)
    whole zero within = absurd (omega (arith, within))
    whole (suc n) within = let e : suc n - 1 ≡ n = omega arith in rw e (feed b (take n bs) is)

    part : (n : ℕ) → 0 < n → n ≤ 1 → lines_of (take n (b ∷ bs)) ≡ take n (b ∷ bs) ∷ []
    part zero some within = absurd (omega (arith, some))
    part (suc zero) some within = feed b [] is
    part (suc (suc n)) some within = absurd (omega (arith, within))

goes_on : (b : ℕ) (bs : List ℕ) → (b == 10) ≡ false → FirstLine bs → FirstLine (b ∷ bs)
goes_on b bs is next = record {
  line = b ∷ next.line;
  rest = next.rest;
  size = omega (arith, next.size);
  some = omega arith;
  first = other b bs is ∙ ap (onto_first b) next.first;
  whole = whole;
  part = part;
}
  where
    whole : (n : ℕ) → suc (length next.line) ≤ n → lines_of (take n (b ∷ bs)) ≡ (b ∷ next.line) ∷ lines_of (take (n - suc (length next.line)) next.rest)
    whole zero within = absurd (omega (arith, within))
    whole (suc n) within =
        let e : suc n - suc (length next.line) ≡ n - length next.line = omega arith in
        rw e (other b (take n bs) is ∙ ap (onto_first b) (next.whole n (omega (arith, within))))

    part : (n : ℕ) → 0 < n → n ≤ suc (length next.line) → lines_of (take n (b ∷ bs)) ≡ take n (b ∷ bs) ∷ []
    part zero some within = absurd (omega (arith, some))
    part (suc zero) some within = other b [] is
    part (suc (suc n)) some within = other b (take (suc n) bs) is ∙ ap (onto_first b) (next.part (suc n) (omega arith) (omega (arith, within)))

last : (b : ℕ) → FirstLine (b ∷ [])
last b = record {
  line = b ∷ [];
  rest = [];
  size = omega arith;
  some = omega arith;
  first = one b (b == 10) refl;
  whole = whole;
  part = part;
}
  where
    whole : (n : ℕ) → 1 ≤ n → lines_of (take n (b ∷ [])) ≡ (b ∷ []) ∷ lines_of (take (n - 1) [])
    whole zero within = absurd (omega (arith, within))
    whole (suc n) within = ap (λ (l : List ℕ). lines_of (b ∷ l)) (take_nothing n) ∙ one b (b == 10) refl ∙ ap (λ (l : List ℕ). (b ∷ []) ∷ lines_of l) (sym (take_nothing (suc n - 1)))

    part : (n : ℕ) → 0 < n → n ≤ 1 → lines_of (take n (b ∷ [])) ≡ take n (b ∷ []) ∷ []
    part zero some within = absurd (omega (arith, some))
    part (suc zero) some within = one b (b == 10) refl
    part (suc (suc n)) some within = absurd (omega (arith, within))

first_line : (b : ℕ) (bs : List ℕ) → FirstLine (b ∷ bs)
first_line b [] = last b
first_line b (c ∷ bs) = by_test (b == 10) refl (first_line c bs)
  where
    by_test : (t : Bool) → (b == 10) ≡ t → FirstLine (c ∷ bs) → FirstLine (b ∷ c ∷ bs)
    by_test true is next = ends_here b (c ∷ bs) is
    by_test false is next = goes_on b (c ∷ bs) is next

bad_here : (from room number : ℕ) (requests : List ScriptRequest) (line : List ℕ) (lines : List (List ℕ)) → number ≡ from → room < length line → IsFirstBad from room requests (line ∷ lines) number
bad_here from room number requests line lines is over = inl (is, λ next good. absurd (omega (arith, good.0, over)))

only_one : (from room number : ℕ) (requests : List ScriptRequest) (line : List ℕ) → IsFirstBad from room requests (line ∷ []) number → number ≡ from
only_one from room number requests line (inl here) = here.0
only_one from room number requests line (inr later) = absurd later.2

behind : (from room number : ℕ) (requests : List ScriptRequest) (line : List ℕ) (front lines : List (List ℕ))
    → ((more : List ScriptRequest) → IsFirstBad (from + 1) (room - length line) more front number → IsFirstBad (from + 1) (room - length line) more lines number)
    → IsFirstBad from room requests (line ∷ front) number → IsFirstBad from room requests (line ∷ lines) number
behind from room number requests line front lines next (inl here) = inl here
behind from room number requests line front lines next (inr later) = inr (later.0, later.1, next later.0 later.2)

bad_more : (text : List ℕ) (split : FirstLine text) (from room number : ℕ) (requests : List ScriptRequest)
    → ((next left : ℕ) (more : List ScriptRequest) → IsFirstBad next left more (lines_of (take (suc left) split.rest)) number → IsFirstBad next left more (lines_of split.rest) number)
    → IsFirstBad from room requests (lines_of (take (suc room) text)) number → (room < length split.line) ⊎ (length split.line ≤ room) → IsFirstBad from room requests (lines_of text) number
bad_more text split from room number requests rest bad (inl over) =
    let front = subst (λ (ls : List (List ℕ)). IsFirstBad from room requests ls number) (split.part (suc room) (omega arith) (omega (arith, over))) bad in
    subst (λ (ls : List (List ℕ)). IsFirstBad from room requests ls number) (sym split.first)
    (bad_here from room number requests split.line (lines_of split.rest) (only_one from room number requests (take (suc room) text) front) over)
bad_more text split from room number requests rest bad (inr within) =
    let left : suc room - length split.line ≡ suc (room - length split.line) = omega (arith, within) in
    let cut : lines_of (take (suc room) text) ≡ split.line ∷ lines_of (take (suc (room - length split.line)) split.rest) =
    split.whole (suc room) (omega (arith, within)) ∙ ap (λ (n : ℕ). split.line ∷ lines_of (take n split.rest)) left in
    let front = subst (λ (ls : List (List ℕ)). IsFirstBad from room requests ls number) cut bad in
    subst (λ (ls : List (List ℕ)). IsFirstBad from room requests ls number) (sym split.first)
    (behind from room number requests split.line (lines_of (take (suc (room - length split.line)) split.rest)) (lines_of split.rest)
    (rest (from + 1) (room - length split.line)) front)

-- the first bad line of the front with one byte more than there is room for is that of the whole
bad_of_front : (fuel : ℕ) (text : List ℕ) (from room number : ℕ) (requests : List ScriptRequest) → length text ≤ fuel
    → IsFirstBad from room requests (lines_of (take (suc room) text)) number → IsFirstBad from room requests (lines_of text) number
bad_of_front fuel [] from room number requests within bad = subst (λ (t : List ℕ). IsFirstBad from room requests (lines_of t) number) (take_nothing (suc room)) bad
bad_of_front zero (b ∷ bs) from room number requests within bad = absurd (omega (arith, within))
bad_of_front (suc fuel) (b ∷ bs) from room number requests within bad =
    let split = first_line b bs in
    let shorter : length split.rest ≤ fuel = omega (arith, within, split.size, split.some) in
    bad_more (b ∷ bs) split from room number requests (λ next left more. bad_of_front fuel split.rest next left number more shorter) bad (cases_lt room (length split.line))

pub bad_front : (text : List ℕ) (from room number : ℕ) (requests : List ScriptRequest) → IsFirstBad from room requests (lines_of (take (suc room) text)) number → IsFirstBad from room requests (lines_of text) number
bad_front text from room number requests bad = bad_of_front (length text) text from room number requests (omega arith) bad

-- good lines fit
fits : (fuel : ℕ) (text : List ℕ) (room : ℕ) (requests after : List ScriptRequest) → length text ≤ fuel → Lead room requests (lines_of text) after → length text ≤ room
fits fuel [] room requests after within good = omega arith
fits zero (b ∷ bs) room requests after within good = absurd (omega (arith, within))
fits (suc fuel) (b ∷ bs) room requests after within good =
    let split = first_line b bs in
    let lines = subst (λ (ls : List (List ℕ)). Lead room requests ls after) split.first good in
    let rest = fits fuel split.rest (room - length split.line) lines.0 after (omega (arith, within, split.size, split.some)) lines.2 in
    omega (arith, split.size, lines.1.0, rest)

-- a front with one byte more than there is room for is the whole, if its lines are good
pub good_front : (text : List ℕ) (room : ℕ) (requests : List ScriptRequest) → AreGood room requests (lines_of (take (suc room) text)) → take (suc room) text ≡ text
good_front text room requests good =
    let small = fits (length (take (suc room) text)) (take (suc room) text) room requests good.0 (omega arith) good.1 in
    grind (arith, common_steps, small)
