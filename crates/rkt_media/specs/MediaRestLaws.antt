-- The laws of what may follow inside a media type.
use Rattle.std.proofs.Common.{◌≡◌, ℕ, List, [], ◌∷◌, ◌++◌, Bool, true, false, ◌==◌, ◌||◌, if◌then◌else◌, refl, inl, inr, ◌⊎◌, ◌↔◌, Some, None, sym, ◌∙◌, ap, subst}
use Rattle.std.proofs.lemmas.Bool.{false≢true}
use Rattle.rkt_grammar.specs.ByteLaws.{equal, differ}
use Rattle.rkt_media.specs.Runs.{run, behind_run}
use Rattle.rkt_media.specs.Media.{Parameter}
use Rattle.rkt_grammar.specs.Grammar.{is_token_byte, is_field_value_byte}
use Rattle.rkt_media.specs.MediaText.{is_blank, is_quoted_byte, behind_quoted, TokenThen, ByteThen, ValueThen, ParameterThen}
use Rattle.rkt_media.specs.MediaRests.{Any, RunOn, MarkOn, WordOn, SubOn, TopOn, QuotedOn, ValueOn, NameOn}

-- a language along an equation of texts
pub along : (R : List ℕ → Type 0) (x y : List ℕ) → x ≡ y → R x → R y
along R x y e h = subst R e h

pub through : {A B C : Type 0} → A ↔ B → B ↔ C → A ↔ C
through {A} {B} {C} f g = (λ a. g.0 (f.0 a), λ c. f.1 (g.1 c))

pub head_same : (a b : ℕ) (xs ys : List ℕ) → a ∷ xs ≡ b ∷ ys → a ≡ b
head_same a b xs ys e = cc

pub tail_same : (a b : ℕ) (xs ys : List ℕ) → a ∷ xs ≡ b ∷ ys → xs ≡ ys
tail_same a b xs ys e = cc

pub run_on : (test : ℕ → Bool) (b : ℕ) (bs : List ℕ) → test b ≡ true → behind_run test (b ∷ bs) ≡ behind_run test bs
run_on test b bs is = ap (λ (t : Bool). if t then behind_run test bs else b ∷ bs) is

pub run_off : (test : ℕ → Bool) (b : ℕ) (bs : List ℕ) → test b ≡ false → behind_run test (b ∷ bs) ≡ b ∷ bs
run_off test b bs is = ap (λ (t : Bool). if t then behind_run test bs else b ∷ bs) is

blank_is : (b : ℕ) → is_blank b ≡ true → (b ≡ 32) ⊎ (b ≡ 9)
blank_is b e = by_test (b == 32) refl e
  where
    by_test : (t : Bool) → (b == 32) ≡ t → (t || (b == 9)) ≡ true → (b ≡ 32) ⊎ (b ≡ 9)
    by_test true is e = inl (equal b 32 is)
    by_test false is e = inr (equal b 9 e)

-- a blank is of no token
pub blank_no_token : (b : ℕ) → is_blank b ≡ true → is_token_byte b ≡ false
blank_no_token b e = elim (blank_is b e) [ inl space ↦ ap is_token_byte space | inr tab ↦ ap is_token_byte tab ]

-- a byte of the run changes nothing
pub run_stays : (test : ℕ → Bool) (L : List ℕ → Type 0) (b : ℕ) (rest : List ℕ)
    → test b ≡ true
    → RunOn test L rest ↔ RunOn test L (b ∷ rest)
run_stays test L b rest is = (λ r. along L _ _ (sym (run_on test b rest is)) r, λ h. along L _ _ (run_on test b rest is) h)

-- at any other byte the run has ended
pub run_ends : (test : ℕ → Bool) (L : List ℕ → Type 0) (b : ℕ) (rest : List ℕ)
    → test b ≡ false
    → L (b ∷ rest) ↔ RunOn test L (b ∷ rest)
run_ends test L b rest is = (λ r. along L _ _ (sym (run_off test b rest is)) r, λ h. along L _ _ (run_off test b rest is) h)

pub byte_in : (c b : ℕ) (rest : List ℕ) (L : List ℕ → Type 0) → (b == c) ≡ true → L rest → ByteThen c (b ∷ rest) L
byte_in c b rest L is r = record { behind = rest; is = ap (λ (x : ℕ). x ∷ rest) (equal b c is); rest = r }

pub byte_out : (c b : ℕ) (rest : List ℕ) (L : List ℕ → Type 0) → ByteThen c (b ∷ rest) L → L rest
byte_out c b rest L h = along L _ _ (sym (tail_same _ _ _ _ h.is)) h.rest

pub byte_other : (c b : ℕ) (rest : List ℕ) (L : List ℕ → Type 0) → (b == c) ≡ false → ¬ ByteThen c (b ∷ rest) L
byte_other c b rest L is h = differ b c is (head_same _ _ _ _ h.is)

pub byte_none : (c : ℕ) (L : List ℕ → Type 0) → ¬ ByteThen c [] L
byte_none c L h = cc h.is

pub mark_stays : (test : ℕ → Bool) (c : ℕ) (L : List ℕ → Type 0) (b : ℕ) (rest : List ℕ)
    → test b ≡ true
    → MarkOn test c L rest ↔ MarkOn test c L (b ∷ rest)
mark_stays test c L b rest is = run_stays test (λ t. ByteThen c t L) b rest is

pub mark_comes : (test : ℕ → Bool) (c : ℕ) (L : List ℕ → Type 0) (b : ℕ) (rest : List ℕ)
    → test b ≡ false
    → (b == c) ≡ true
    → L rest ↔ MarkOn test c L (b ∷ rest)
mark_comes test c L b rest is here = let law = run_ends test (λ t. ByteThen c t L) b rest is in
    (λ r. law.0 (byte_in c b rest L here r), λ h. byte_out c b rest L (law.1 h))

pub mark_misses : (test : ℕ → Bool) (c : ℕ) (L : List ℕ → Type 0) (b : ℕ) (rest : List ℕ)
    → test b ≡ false
    → (b == c) ≡ false
    → ¬ MarkOn test c L (b ∷ rest)
mark_misses test c L b rest is other h = byte_other c b rest L other ((run_ends test (λ t. ByteThen c t L) b rest is).1 h)

-- the first byte of a token, in a language that a further byte of the token leaves as it is
pub word_begins : (L : List ℕ → Type 0) (b : ℕ) (rest : List ℕ)
    → is_token_byte b ≡ true
    → L rest ↔ L (b ∷ rest)
    → L rest ↔ WordOn L (b ∷ rest)
word_begins L b rest is law = (λ r. (is, law.0 r), λ h. law.1 h.1)

pub word_misses : (L : List ℕ → Type 0) (b : ℕ) (rest : List ℕ) → is_token_byte b ≡ false → ¬ WordOn L (b ∷ rest)
word_misses L b rest is h = false≢true (sym is ∙ h.0)

pub sub_begins : (K : List ℕ → Type 0) (b : ℕ) (rest : List ℕ)
    → is_token_byte b ≡ true
    → RunOn is_token_byte K rest ↔ SubOn K (b ∷ rest)
sub_begins K b rest is = word_begins (RunOn is_token_byte K) b rest is (run_stays is_token_byte K b rest is)

-- a value that is a token
pub value_begins : (K : List ℕ → Type 0) (b : ℕ) (rest : List ℕ)
    → is_token_byte b ≡ true
    → RunOn is_token_byte K rest ↔ ValueOn K (b ∷ rest)
value_begins K b rest is = (
  λ r. inl ((sub_begins K b rest is).0 r),
  λ h. elim h [
    | inl token ↦ (sub_begins K b rest is).1 token
    | inr quoted ↦ absurd (no_quote b is (head_same _ _ _ _ quoted.is))
  ],
)
  where
    no_quote : (b : ℕ) → is_token_byte b ≡ true → b ≡ 34 → ⊥
    no_quote b is quote = false≢true (sym (ap is_token_byte quote) ∙ is)

-- a value that is a quoted string
pub value_opens : (K : List ℕ → Type 0) (b : ℕ) (rest : List ℕ)
    → is_token_byte b ≡ false
    → (b == 34) ≡ true
    → QuotedOn K false rest ↔ ValueOn K (b ∷ rest)
value_opens K b rest is quote = (
  λ r. inr (byte_in 34 b rest (QuotedOn K false) quote r),
  λ h. elim h [
    | inl token ↦ absurd (word_misses (RunOn is_token_byte K) b rest is token)
    | inr quoted ↦ byte_out 34 b rest (QuotedOn K false) quoted
  ],
)

pub value_misses : (K : List ℕ → Type 0) (b : ℕ) (rest : List ℕ)
    → is_token_byte b ≡ false
    → (b == 34) ≡ false
    → ¬ ValueOn K (b ∷ rest)
value_misses K b rest is other h = elim h [
  | inl token ↦ word_misses (RunOn is_token_byte K) b rest is token
  | inr quoted ↦ byte_other 34 b rest (QuotedOn K false) other quoted
]

-- inside a quoted string, by what the byte does there
quoted_goes : (K : List ℕ → Type 0) (escaped e : Bool) (b : ℕ) (rest : List ℕ)
    → behind_quoted escaped (b ∷ rest) ≡ behind_quoted e rest
    → QuotedOn K e rest ↔ QuotedOn K escaped (b ∷ rest)
quoted_goes K escaped e b rest same = (λ r. (r.0, same ∙ r.1, r.2), λ h. (h.0, sym same ∙ h.1, h.2))

quoted_none : (K : List ℕ → Type 0) (escaped : Bool) (b : ℕ) (rest : List ℕ)
    → behind_quoted escaped (b ∷ rest) ≡ None
    → ¬ QuotedOn K escaped (b ∷ rest)
quoted_none K escaped b rest none h = let clash : None ≡ Some h.0 = sym none ∙ h.1 in cc clash

-- what a byte does between quotation marks
pub quoted_step : (b : ℕ) (rest : List ℕ) (t u v : Bool)
    → (b == 34) ≡ t
    → (b == 92) ≡ u
    → is_quoted_byte b ≡ v
    → behind_quoted false (b ∷ rest)
    ≡ (if t then Some rest else (if u then behind_quoted true rest else (if v then behind_quoted false rest else None)))
quoted_step b rest t u v quote slash is =
    ap (λ (x : Bool). if x
    then Some rest
    else (if b == 92 then behind_quoted true rest else (if is_quoted_byte b then behind_quoted false rest else None))) quote
    ∙ ap (λ (x : Bool). if t
    then Some rest
    else (if x then behind_quoted true rest else (if is_quoted_byte b then behind_quoted false rest else None))) slash
    ∙ ap (λ (x : Bool).
    if t then Some rest else (if u then behind_quoted true rest else (if x then behind_quoted false rest else None))) is

pub quoted_closes : (K : List ℕ → Type 0) (b : ℕ) (rest : List ℕ) → (b == 34) ≡ true → K rest ↔ QuotedOn K false (b ∷ rest)
quoted_closes K b rest quote =
    let same : behind_quoted false (b ∷ rest) ≡ Some rest = quoted_step b rest true (b == 92)
    (is_quoted_byte b) quote refl refl in (
      λ r. (rest, same, r),
      λ h. let more : Some rest ≡ Some h.0 = sym same ∙ h.1 in along K h.0 rest (sym (cc more)) h.2,
    )

pub quoted_escapes : (K : List ℕ → Type 0) (b : ℕ) (rest : List ℕ)
    → (b == 34) ≡ false
    → (b == 92) ≡ true
    → QuotedOn K true rest ↔ QuotedOn K false (b ∷ rest)
quoted_escapes K b rest quote slash =
    quoted_goes K false true b rest (quoted_step b rest false true (is_quoted_byte b) quote slash refl)

pub quoted_stays : (K : List ℕ → Type 0) (b : ℕ) (rest : List ℕ)
    → (b == 34) ≡ false
    → (b == 92) ≡ false
    → is_quoted_byte b ≡ true
    → QuotedOn K false rest ↔ QuotedOn K false (b ∷ rest)
quoted_stays K b rest quote slash is = quoted_goes K false false b rest (quoted_step b rest false false true quote slash is)

pub quoted_misses : (K : List ℕ → Type 0) (b : ℕ) (rest : List ℕ)
    → (b == 34) ≡ false
    → (b == 92) ≡ false
    → is_quoted_byte b ≡ false
    → ¬ QuotedOn K false (b ∷ rest)
quoted_misses K b rest quote slash is = quoted_none K false b rest (quoted_step b rest false false false quote slash is)

pub escaped_stays : (K : List ℕ → Type 0) (b : ℕ) (rest : List ℕ) → is_field_value_byte b ≡ true
    → QuotedOn K false rest ↔ QuotedOn K true (b ∷ rest)
escaped_stays K b rest is = quoted_goes K true false b rest (rw is refl)

pub escaped_misses : (K : List ℕ → Type 0) (b : ℕ) (rest : List ℕ) → is_field_value_byte b ≡ false
    → ¬ QuotedOn K true (b ∷ rest)
escaped_misses K b rest is = quoted_none K true b rest (rw is refl)

-- a quoted string is a front of the text that closes by itself
pub quoted_front : (escaped : Bool) (text more : List ℕ)
    → behind_quoted escaped text ≡ Some more
    → (front : List ℕ) × (text ≡ front ++ more) × (behind_quoted escaped front ≡ Some [])
quoted_front true [] more e = absurd (cc e)
quoted_front false [] more e = absurd (cc e)
quoted_front true (b ∷ bs) more e = by_test (is_field_value_byte b) refl (λ e. quoted_front false bs more e) e
  where
    by_test : (t : Bool)
        → is_field_value_byte b ≡ t
        → (behind_quoted false bs ≡ Some more → (front : List ℕ) × (bs ≡ front ++ more) × (behind_quoted false front ≡ Some []))
        → (if t then behind_quoted false bs else None) ≡ Some more
        → (front : List ℕ) × (b ∷ bs ≡ front ++ more) × (behind_quoted true front ≡ Some [])
    by_test true is on e =
        let f = on e in
        (b ∷ f.0, ap (λ (xs : List ℕ). b ∷ xs) f.1, ap (λ (t : Bool). if t then behind_quoted false f.0 else None) is ∙ f.2)
    by_test false is on e = absurd (cc e)
quoted_front false (b ∷ bs) more e =
    by_test (b == 34) (b == 92) (is_quoted_byte b) refl refl refl (λ e. quoted_front true bs more e)
    (λ e. quoted_front false bs more e) e
  where
    by_test : (t u v : Bool)
        → (b == 34) ≡ t
        → (b == 92) ≡ u
        → is_quoted_byte b ≡ v
        → (behind_quoted true bs ≡ Some more → (front : List ℕ) × (bs ≡ front ++ more) × (behind_quoted true front ≡ Some []))
        → (behind_quoted false bs ≡ Some more → (front : List ℕ) × (bs ≡ front ++ more) × (behind_quoted false front ≡ Some []))
        → (if t then Some bs else (if u then behind_quoted true bs else (if v then behind_quoted false bs else None)))
        ≡ Some more
        → (front : List ℕ) × (b ∷ bs ≡ front ++ more) × (behind_quoted false front ≡ Some [])
    by_test true u v quote slash is escaped on e =
        (b ∷ [], ap (λ (xs : List ℕ). b ∷ xs) (cc e), quoted_step b [] true u v quote slash is)
    by_test false true v quote slash is escaped on e =
        let f = escaped e in (b ∷ f.0, ap (λ (xs : List ℕ). b ∷ xs) f.1, quoted_step b f.0 false true v quote slash is ∙ f.2)
    by_test false false true quote slash is escaped on e =
        let f = on e in (b ∷ f.0, ap (λ (xs : List ℕ). b ∷ xs) f.1, quoted_step b f.0 false false true quote slash is ∙ f.2)
    by_test false false false quote slash is escaped on e = absurd (cc e)

-- the same with the parts that are spelled
pub value_spelled : (V : Type 0) (P : V → List ℕ → Type 0) (text : List ℕ)
    → ValueOn (Any V P) text ↔ ((value : List ℕ) × (v : V) × ValueThen text value (P v))
value_spelled V P text = (
  λ r. elim r [
    | inl token ↦ (run is_token_byte text, token.1.0, inl record { starts = token.0; is = refl; rest = token.1.1 })
    | inr quoted ↦ opened quoted
  ],
  λ h. elim h.2 [
    | inl token ↦ inl (token.starts, (h.1, token.rest))
    | inr quoted ↦ inr
        record { behind = quoted.inside; is = quoted.opened; rest = (quoted.more, quoted.closed, (h.1, quoted.rest)) }
  ],
)
  where
    opened : ByteThen 34 text (QuotedOn (Any V P) false) → (value : List ℕ) × (v : V) × ValueThen text value (P v)
    opened q = let front = quoted_front false q.behind q.rest.0 q.rest.1 in (
      34 ∷ front.0,
      q.rest.2.0,
      inr record {
        inside = q.behind;
        opened = q.is;
        more = q.rest.0;
        closed = q.rest.1;
        is = q.is ∙ ap (λ (xs : List ℕ). 34 ∷ xs) front.1;
        rest = q.rest.2.1;
      },
    )

pub parameter_spelled : (V : Type 0) (P : V → List ℕ → Type 0) (text : List ℕ)
    → WordOn (NameOn (Any V P)) text ↔ ((p : Parameter) × (v : V) × ParameterThen text p (P v))
parameter_spelled V P text = (
  λ r. let value = (value_spelled V P r.1.behind).0 r.1.rest in (
    (run is_token_byte text, value.0),
    value.1,
    record { starts = r.0; is = refl; rest = record { behind = r.1.behind; is = r.1.is; rest = value.2 } },
  ),
  λ h. (
    h.2.starts,
    record {
      behind = h.2.rest.behind;
      is = h.2.rest.is;
      rest = (value_spelled V P h.2.rest.behind).1 (h.0.1, h.1, h.2.rest.rest);
    },
  ),
)

pub media_spelled : (V : Type 0) (P : V → List ℕ → Type 0) (text : List ℕ)
    → WordOn (TopOn (Any V P)) text
    ↔ ((top sub : List ℕ) × (v : V) × TokenThen text top (λ t. ByteThen 47 t (λ t. TokenThen t sub (P v))))
media_spelled V P text = (
  λ r. (
    run is_token_byte text,
    run is_token_byte r.1.behind,
    r.1.rest.1.0,
    record {
      starts = r.0;
      is = refl;
      rest = record { behind = r.1.behind; is = r.1.is; rest = record { starts = r.1.rest.0; is = refl; rest = r.1.rest.1.1 } };
    },
  ),
  λ h. (
    h.3.starts,
    record { behind = h.3.rest.behind; is = h.3.rest.is; rest = (h.3.rest.rest.starts, (h.2, h.3.rest.rest.rest)) },
  ),
)
