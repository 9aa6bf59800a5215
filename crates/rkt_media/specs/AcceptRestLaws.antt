-- The laws of what may follow in a list of accepted media types.
use Rattle.std.proofs.Common.{◌≡◌, ℕ, List, [], ◌∷◌, ◌++◌, Bool, true, false, ◌==◌, ◌||◌, ◌&&◌, if◌then◌else◌, refl, inl, inr, ◌⊎◌, ◌↔◌, MatchBool, sym, ◌∙◌, ap, subst, map, arith, codes}
use Rattle.std.proofs.lemmas.Bool.{false≢true}
use Rattle.std.proofs.lemmas.Bool.Decides.{nat_tests}
use Rattle.std.specs.Char.{to_ascii_lowercase}
use Rattle.std.specs.Str.{str_eq_ignore_ascii_case}
use Rattle.rkt_grammar.specs.ByteLaws.{equal}
use Rattle.rkt_media.specs.Runs.{run, behind_run, Starts}
use Rattle.rkt_media.specs.Media.{Media, Parameter}
use Rattle.rkt_grammar.specs.Grammar.{is_token_byte}
use Rattle.rkt_media.specs.MediaText.{is_blank, ByteThen, ValueThen, ParameterThen, MediaThen}
use Rattle.rkt_media.specs.MediaRestLaws.{along, run_on, run_off, byte_in, byte_out, byte_other, byte_none, run_stays, run_ends, mark_stays, parameter_spelled, media_spelled}
use Rattle.rkt_media.specs.MediaRests.{RunOn, WordOn, TopOn, ValueOn, NameOn}
use Rattle.rkt_media.specs.Accept.{is_weight, weighed}
use Rattle.rkt_media.specs.AcceptText.{is_gap, is_digit_to, IsWeight, AreWeighed, CommaThen, ListsMedia, IsAccept}
use Rattle.rkt_media.specs.AcceptRests.{is_q, Left, Follow, Given, Tail, WeightOn, WeightNameOn, ParameterOn}

comma_no_blank : (b : ℕ) → (b == 44) ≡ true → is_blank b ≡ false
comma_no_blank b e = grind (arith, nat_tests, e)

semicolon_no_blank : (b : ℕ) → (b == 59) ≡ true → is_blank b ≡ false
semicolon_no_blank b e = grind (arith, nat_tests, e)

comma_no_semicolon : (b : ℕ) → (b == 44) ≡ true → (b == 59) ≡ false
comma_no_semicolon b e = grind (arith, nat_tests, e)

pub q_no_blank : (b : ℕ) → is_q b ≡ true → is_blank b ≡ false
q_no_blank b e = grind (arith, nat_tests, e)

q_is : (b : ℕ) → is_q b ≡ true → (b ≡ 113) ⊎ (b ≡ 81)
q_is b e = by_test (b == 113) refl e
  where
    by_test : (t : Bool) → (b == 113) ≡ t → (t || (b == 81)) ≡ true → (b ≡ 113) ⊎ (b ≡ 81)
    by_test true is e = inl (equal b 113 is)
    by_test false is e = inr (equal b 81 e)

pub comma_no_token : (b : ℕ) → (b == 44) ≡ true → is_token_byte b ≡ false
comma_no_token b e = ap is_token_byte (equal b 44 e)

pub semicolon_no_token : (b : ℕ) → (b == 59) ≡ true → is_token_byte b ≡ false
semicolon_no_token b e = ap is_token_byte (equal b 59 e)

pub point_token : (b : ℕ) → (b == 46) ≡ true → is_token_byte b ≡ true
point_token b e = ap is_token_byte (equal b 46 e)

pub zero_token : (b : ℕ) → (b == 48) ≡ true → is_token_byte b ≡ true
zero_token b e = ap is_token_byte (equal b 48 e)

pub one_token : (b : ℕ) → (b == 49) ≡ true → is_token_byte b ≡ true
one_token b e = ap is_token_byte (equal b 49 e)

q_token : (b : ℕ) → is_q b ≡ true → is_token_byte b ≡ true
q_token b e = elim (q_is b e) [ inl small ↦ ap is_token_byte small | inr capital ↦ ap is_token_byte capital ]

pub digit_token : (most b : ℕ) → is_digit_to most b ≡ true → is_token_byte b ≡ true
digit_token most b e = grind (arith, nat_tests, e)

-- a list is the same behind more blanks and commas
pub lists_along : (types : List Media) (x y : List ℕ)
    → behind_run is_gap x ≡ behind_run is_gap y
    → ListsMedia types x
    → ListsMedia types y
lists_along [] x y e h = sym e ∙ h
lists_along (m ∷ ms) x y e h =
    (h.0, along (λ t. MediaThen t m (λ t. CommaThen (behind_run is_blank t) (ListsMedia ms))) _ _ e h.1)

-- what follows a value is the same behind more blanks
follow_along : (ps : List Parameter) (ms : List Media) (x y : List ℕ)
    → behind_run is_blank x ≡ behind_run is_blank y
    → Follow ps ms x
    → Follow ps ms y
follow_along [] ms x y e h = along (λ t. CommaThen t (ListsMedia ms)) _ _ e h
follow_along (p ∷ ps) ms x y e h =
    along (λ t. ByteThen 59 t (λ t. ParameterThen (behind_run is_blank t) p (Follow ps ms))) _ _ e h

pub tail_blank : (b : ℕ) (rest : List ℕ) → is_blank b ≡ true → Tail rest ↔ Tail (b ∷ rest)
tail_blank b rest is =
    let same = run_on is_blank b rest is in (
      λ r. (r.0, follow_along r.0.0 r.0.1 rest (b ∷ rest) (sym same) r.1),
      λ h. (h.0, follow_along h.0.0 h.0.1 (b ∷ rest) rest same h.1),
    )

-- a name that is q begins with it
weight_begins : (name : List ℕ) (b : ℕ) (bs : List ℕ)
    → name ≡ b ∷ bs
    → str_eq_ignore_ascii_case name (codes "q") ≡ true
    → is_q b ≡ true
weight_begins name b bs e is =
    lower b (first (to_ascii_lowercase b == 113) _ (sym (ap (λ (n : List ℕ). str_eq_ignore_ascii_case n (codes "q")) e) ∙ is))
  where
    first : (t u : Bool) → (t && u) ≡ true → t ≡ true
    first true u is = refl
    first false u is = is

    lower : (b : ℕ) → (to_ascii_lowercase b == 113) ≡ true → is_q b ≡ true
    lower b is = grind (arith, nat_tests, is)

-- and has no further byte
weight_short : (name : List ℕ) (b c : ℕ) (cs : List ℕ)
    → name ≡ b ∷ c ∷ cs
    → ¬ (str_eq_ignore_ascii_case name (codes "q") ≡ true)
weight_short name b c cs e is =
    second (to_ascii_lowercase b == 113) (sym (ap (λ (n : List ℕ). str_eq_ignore_ascii_case n (codes "q")) e) ∙ is)
  where
    second : (t : Bool) → (t && false) ≡ true → ⊥
    second true is = false≢true is
    second false is = false≢true is

q_weight : (name : List ℕ) (b : ℕ) → name ≡ b ∷ [] → is_q b ≡ true → str_eq_ignore_ascii_case name (codes "q") ≡ true
q_weight name b e is = ap (λ (n : List ℕ). str_eq_ignore_ascii_case n (codes "q")) e ∙ elim (q_is b is) [
  | inl small ↦ ap (λ (x : ℕ). str_eq_ignore_ascii_case (x ∷ []) (codes "q")) small
  | inr capital ↦ ap (λ (x : ℕ). str_eq_ignore_ascii_case (x ∷ []) (codes "q")) capital
]

pub run_more : (b : ℕ) (bs : List ℕ) → is_token_byte b ≡ true → run is_token_byte (b ∷ bs) ≡ b ∷ run is_token_byte bs
run_more b bs is = ap (λ (t : Bool). if t then b ∷ run is_token_byte bs else []) is

run_none : (b : ℕ) (bs : List ℕ) → is_token_byte b ≡ false → run is_token_byte (b ∷ bs) ≡ []
run_none b bs is = ap (λ (t : Bool). if t then b ∷ run is_token_byte bs else []) is

pub name_stays : (b : ℕ) (rest : List ℕ) → is_token_byte b ≡ true → NameOn Tail rest ↔ NameOn Tail (b ∷ rest)
name_stays b rest is = mark_stays is_token_byte 61 (ValueOn Tail) b rest is

-- a weight, as a value
weight_starts : (text : List ℕ) → IsWeight (run is_token_byte text) → Starts is_token_byte text
weight_starts [] w = w
weight_starts (b ∷ bs) w = by_test (is_token_byte b) w
  where
    by_test : (t : Bool) → IsWeight (if t then b ∷ run is_token_byte bs else []) → t ≡ true
    by_test true w = refl
    by_test false w = absurd w

no_weight : (value more inside : List ℕ) → IsWeight value → ¬ (34 ∷ inside ≡ value ++ more)
no_weight [] more inside w e = w
no_weight (b ∷ bs) more inside w e =
    let first : 34 ≡ b = cc e in elim w [ inl nought ↦ omega (arith, nought.0) | inr one ↦ omega (arith, one.0) ]

weight_value : (value : List ℕ) (left : Left) (text : List ℕ)
    → IsWeight value
    → ValueThen text value (Given left)
    → WeightOn IsWeight text
weight_value value left text w (inl token) = (subst IsWeight token.is w, (left, token.rest))
weight_value value left text w (inr quoted) =
    absurd (no_weight value quoted.more quoted.inside w (sym quoted.opened ∙ quoted.is))

-- a parameter with its parts
abbrev Parametric : List ℕ → Type 0
Parametric text = (p : Parameter) × (left : Left) × (is_weight p ≡ true → IsWeight p.1) × ParameterThen text p (Given left)

weight_in : (b : ℕ) (bs : List ℕ) → is_q b ≡ true → ByteThen 61 bs (WeightOn IsWeight) → Parametric (b ∷ bs)
weight_in b bs is q = (
  (run is_token_byte (b ∷ bs), run is_token_byte q.behind),
  q.rest.1.0,
  λ _. q.rest.0,
  record {
    starts = q_token b is;
    is = refl;
    rest = record {
      behind = q.behind;
      is = run_on is_token_byte b bs (q_token b is) ∙ ap (behind_run is_token_byte) q.is;
      rest = inl record { starts = weight_starts q.behind q.rest.0; is = refl; rest = q.rest.1.1 };
    };
  },
)

-- a name that goes on behind q is no weight's
longer_in : (b : ℕ) (bs : List ℕ) → is_q b ≡ true → WordOn (NameOn Tail) bs → Parametric (b ∷ bs)
longer_in b [] is word = absurd word.0
longer_in b (c ∷ cs) is word =
    let token : is_token_byte b ≡ true = q_token b is in
    let p = (parameter_spelled Left Given (b ∷ c ∷ cs)).0 (token, (name_stays b (c ∷ cs) token).0 word.1) in (
      p.0,
      p.1,
      λ w. absurd (weight_short p.0.0 b c (run is_token_byte cs)
          (p.2.is ∙ run_more b (c ∷ cs) token ∙ ap (λ (xs : List ℕ). b ∷ xs) (run_more c cs word.0)) w),
      p.2,
    )

other_in : (b : ℕ) (bs : List ℕ) → is_q b ≡ false → (is_token_byte b ≡ true) × NameOn Tail bs → Parametric (b ∷ bs)
other_in b bs is word =
    let p = (parameter_spelled Left Given (b ∷ bs)).0 (word.0, (name_stays b bs word.0).0 word.1) in (
      p.0,
      p.1,
      λ w. absurd (false≢true (sym is ∙ weight_begins p.0.0 b (run is_token_byte bs) (p.2.is ∙ run_more b bs word.0) w)),
      p.2,
    )

name_of : (b : ℕ) (bs : List ℕ) (h : Parametric (b ∷ bs)) → NameOn Tail bs
name_of b bs h = (name_stays b bs h.3.starts).1 ((parameter_spelled Left Given (b ∷ bs)).1 (h.0, h.1, h.3)).1

weight_out : (b : ℕ) (bs : List ℕ) → is_q b ≡ true → Parametric (b ∷ bs) → WeightNameOn bs
weight_out b [] is h = absurd (byte_none 61 (λ t. ValueThen t h.0.1 (Given h.1))
    (along (λ t. ByteThen 61 t (λ t. ValueThen t h.0.1 (Given h.1))) _ _ (run_on is_token_byte b [] (q_token b is)) h.3.rest))
weight_out b (c ∷ cs) is h = by_test (is_token_byte c) refl
  where
    by_test : (t : Bool) → is_token_byte c ≡ t → WeightNameOn (c ∷ cs)
    by_test true token = inl (token, name_of b (c ∷ cs) h)
    by_test false none =
        let behind : behind_run is_token_byte (b ∷ c ∷ cs) ≡ c ∷ cs = run_on is_token_byte b (c ∷ cs) (q_token b is)
        ∙ run_off is_token_byte c cs none in
        let name : h.0.0 ≡ b ∷ [] = h.3.is
        ∙ run_more b (c ∷ cs) (q_token b is)
        ∙ ap (λ (xs : List ℕ). b ∷ xs) (run_none c cs none) in
        inr record {
          behind = h.3.rest.behind;
          is = sym behind ∙ h.3.rest.is;
          rest = weight_value h.0.1 h.1 h.3.rest.behind (h.2 (q_weight h.0.0 b name is)) h.3.rest.rest;
        }

parametric : (text : List ℕ) → ParameterOn text ↔ Parametric text
parametric [] = (λ r. absurd r, λ h. absurd h.3.starts)
parametric (b ∷ bs) = by_test (is_q b) refl
  where
    by_test : (q : Bool)
        → is_q b ≡ q
        → MatchBool q (WeightNameOn bs) ((is_token_byte b ≡ true) × NameOn Tail bs) ↔ Parametric (b ∷ bs)
    by_test true is = (
      λ r. elim r [ inl longer ↦ longer_in b bs is longer | inr weight ↦ weight_in b bs is weight ],
      λ h. weight_out b bs is h,
    )
    by_test false is = (λ r. other_in b bs is r, λ h. (h.3.starts, name_of b bs h))

-- a semicolon behind a value
pub tail_semicolon : (b : ℕ) (rest : List ℕ) → (b == 59) ≡ true → RunOn is_blank ParameterOn rest ↔ Tail (b ∷ rest)
tail_semicolon b rest is = (λ r. into ((parametric (behind_run is_blank rest)).0 r), λ h. out h.0.0 h.0.1 h.0.2 h.1)
  where
    skipped : behind_run is_blank (b ∷ rest) ≡ b ∷ rest
    skipped = run_off is_blank b rest (semicolon_no_blank b is)

    into : Parametric (behind_run is_blank rest) → Tail (b ∷ rest)
    into p =
        let Behind : List ℕ → Type 0 = λ t. ParameterThen (behind_run is_blank t) p.0 (Given p.1) in (
          (p.0 ∷ p.1.0, p.1.1, (p.2, p.1.2)),
          along (λ t. ByteThen 59 t Behind) _ _ (sym skipped) (byte_in 59 b rest Behind is p.3),
        )

    out : (ps : List Parameter) (ms : List Media) → AreWeighed ps → Follow ps ms (b ∷ rest) → RunOn is_blank ParameterOn rest
    out [] ms w h = absurd (elim (along (λ t. CommaThen t (ListsMedia ms)) _ _ skipped h) [
      | inl end ↦ cc end.0
      | inr comma ↦ byte_other 44 b rest (ListsMedia ms) (semicolon_no_comma b is) comma
    ])
      where
        semicolon_no_comma : (b : ℕ) → (b == 59) ≡ true → (b == 44) ≡ false
        semicolon_no_comma b e = grind (arith, nat_tests, e)
    out (p ∷ ps) ms w h =
        let Behind : List ℕ → Type 0 = λ t. ParameterThen (behind_run is_blank t) p (Follow ps ms) in
        let left : Left = (ps, ms, w.1) in
        (parametric (behind_run is_blank rest)).1 (
          p,
          left,
          w.0,
          byte_out 59 b rest Behind (along (λ t. ByteThen 59 t Behind) _ _ skipped h),
        )

-- a comma behind an entry
pub tail_comma : (b : ℕ) (rest : List ℕ) → (b == 44) ≡ true → IsAccept rest ↔ Tail (b ∷ rest)
tail_comma b rest is = (
  λ r. (
    ([], r.1.0, tt),
    along (λ t. CommaThen t (ListsMedia r.1.0)) _ _ (sym skipped) (inr (byte_in 44 b rest (ListsMedia r.1.0) is r.1.1)),
  ),
  λ h. out h.0.0 h.0.1 h.1,
)
  where
    skipped : behind_run is_blank (b ∷ rest) ≡ b ∷ rest
    skipped = run_off is_blank b rest (comma_no_blank b is)

    out : (ps : List Parameter) (ms : List Media) → Follow ps ms (b ∷ rest) → IsAccept rest
    out [] ms h = elim (along (λ t. CommaThen t (ListsMedia ms)) _ _ skipped h) [
      | inl end ↦ absurd (cc end.0)
      | inr comma ↦ (map weighed ms, (ms, byte_out 44 b rest (ListsMedia ms) comma, refl))
    ]
    out (p ∷ ps) ms h =
        let Behind : List ℕ → Type 0 = λ t. ParameterThen (behind_run is_blank t) p (Follow ps ms) in
        absurd (byte_other 59 b rest Behind (comma_no_semicolon b is) (along (λ t. ByteThen 59 t Behind) _ _ skipped h))

pub tail_none : (b : ℕ) (rest : List ℕ) → is_blank b ≡ false → (b == 44) ≡ false → (b == 59) ≡ false → ¬ Tail (b ∷ rest)
tail_none b rest blank comma semicolon h = out h.0.0 h.0.1 h.1
  where
    out : (ps : List Parameter) (ms : List Media) → ¬ Follow ps ms (b ∷ rest)
    out [] ms h = elim (along (λ t. CommaThen t (ListsMedia ms)) _ _ (run_off is_blank b rest blank) h) [
      | inl end ↦ cc end.0
      | inr other ↦ byte_other 44 b rest (ListsMedia ms) comma other
    ]
    out (p ∷ ps) ms h =
        let Behind : List ℕ → Type 0 = λ t. ParameterThen (behind_run is_blank t) p (Follow ps ms) in
        byte_other 59 b rest Behind semicolon (along (λ t. ByteThen 59 t Behind) _ _ (run_off is_blank b rest blank) h)

-- a weight that may end
pub weight_ends : (L : List ℕ → Type 0) (b : ℕ) (rest : List ℕ)
    → L []
    → is_token_byte b ≡ false
    → Tail (b ∷ rest) ↔ WeightOn L (b ∷ rest)
weight_ends L b rest empty is = (
  λ r. (along L _ _ (sym (run_none b rest is)) empty, (run_ends is_token_byte Tail b rest is).0 r),
  λ h. (run_ends is_token_byte Tail b rest is).1 h.1,
)

-- a weight that goes on
pub weight_goes : (L M : List ℕ → Type 0) (b : ℕ) (rest : List ℕ)
    → is_token_byte b ≡ true
    → L (run is_token_byte rest) ↔ M (b ∷ run is_token_byte rest)
    → WeightOn L rest ↔ WeightOn M (b ∷ rest)
weight_goes L M b rest is law = (
  λ r. (along M _ _ (sym (run_more b rest is)) (law.0 r.0), (run_stays is_token_byte Tail b rest is).0 r.1),
  λ h. (law.1 (along M _ _ (run_more b rest is) h.0), (run_stays is_token_byte Tail b rest is).1 h.1),
)

-- the first media type of a list
pub first_media : (b : ℕ) (rest : List ℕ) → is_gap b ≡ false → WordOn (TopOn Tail) (b ∷ rest) ↔ IsAccept (b ∷ rest)
first_media b rest gap = (λ r. into ((media_spelled Left Given (b ∷ rest)).0 r), λ h. out h.1.0 h.1.1)
  where
    skipped : behind_run is_gap (b ∷ rest) ≡ b ∷ rest
    skipped = run_off is_gap b rest gap

    into : ((top sub : List ℕ) × (left : Left)
        × MediaThen (b ∷ rest) (record { top = top; sub = sub; parameters = left.0 }) (λ t.
        CommaThen (behind_run is_blank t) (ListsMedia left.1)))
        → IsAccept (b ∷ rest)
    into m =
        let media : Media = record { top = m.0; sub = m.1; parameters = m.2.0 } in (
          map weighed (media ∷ m.2.1),
          (
            media ∷ m.2.1,
            (
              m.2.2,
              along (λ t. MediaThen t media (λ t. CommaThen (behind_run is_blank t) (ListsMedia m.2.1))) _ _ (sym skipped) m.3,
            ),
            refl,
          ),
        )

    out : (types : List Media) → ListsMedia types (b ∷ rest) → WordOn (TopOn Tail) (b ∷ rest)
    out [] h = let none : b ∷ rest ≡ [] = sym skipped ∙ h in absurd (cc none)
    out (m ∷ ms) h =
        let left : Left = (m.parameters, ms, h.0) in
        (media_spelled Left Given (b ∷ rest)).1 (
          m.top,
          m.sub,
          left,
          along (λ t. MediaThen t m (λ t. CommaThen (behind_run is_blank t) (ListsMedia ms))) _ _ skipped h.1,
        )
