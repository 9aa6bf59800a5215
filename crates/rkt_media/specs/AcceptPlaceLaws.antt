-- What may follow in a list of accepted media types, byte by byte.
use Rattle.std.proofs.Common.{◌≡◌, ℕ, zero, suc, ◌-◌, List, [], ◌∷◌, Bool, true, false, ◌==◌, ◌&&◌, nat_lt, if◌then◌else◌, refl, inl, inr, ◌↔◌, Option, Some, None, MatchOption, MatchBool, option_map, sym, ◌∙◌, ap, subst, arith, sub-one}
use Rattle.std.proofs.lemmas.Bool.{false≢true}
use Rattle.std.proofs.lemmas.Bool.Decides.{nat_tests}
use Rattle.rkt_grammar.specs.Grammar.{Begins, is_token_byte, is_field_value_byte}
use Rattle.rkt_grammar.specs.ByteLaws.{equal, differ}
use Rattle.rkt_media.specs.Runs.{run}
use Rattle.rkt_media.specs.MediaText.{is_blank, is_quoted_byte, ByteThen}
use Rattle.rkt_media.specs.MediaRestLaws.{blank_no_token, along, through, run_on, byte_in, byte_out, byte_other, byte_none, run_stays, run_ends, mark_stays, mark_comes, mark_misses, word_begins, word_misses, sub_begins, value_begins, value_opens, value_misses, quoted_closes, quoted_escapes, quoted_stays, quoted_misses, escaped_stays, escaped_misses}
use Rattle.rkt_media.specs.MediaRests.{RunOn, WordOn, SubOn, TopOn, QuotedOn, ValueOn, NameOn}
use Rattle.rkt_media.specs.AcceptText.{is_gap, is_digit_to, DigitsTo, FractionTo, IsWeight, IsAccept}
use Rattle.rkt_media.specs.AcceptRestLaws.{q_no_blank, comma_no_token, semicolon_no_token, point_token, zero_token, one_token, digit_token, lists_along, tail_blank, run_more, name_stays, tail_semicolon, tail_comma, tail_none, weight_ends, weight_goes, first_media}
use Rattle.rkt_media.specs.AcceptRests.{is_q, Tail, WeightOn, WeightNameOn, ParameterOn}
use Rattle.rkt_media.specs.declared.media_place.MediaPlace.{MediaPlace}
use Rattle.rkt_media.specs.declared.media_place.MediaPlace.TheVariants.{TopStart, Top, SubStart, LastWord, Blank, Semicolon, Name, ValueStart, Quoted, Escaped, Closed}
use Rattle.rkt_media.specs.declared.accept_place.AcceptPlace.{AcceptPlace}
use Rattle.rkt_media.specs.declared.accept_place.AcceptPlace.TheVariants.{Between, Inside, WeightName, WeightStart, Whole, Digits}
use Rattle.rkt_media.specs.AcceptPlaces.{behind_entry, after_inside, place_after, may_end_inside, may_end, rest_inside, rest_of}

-- what a byte does in front of texts of a language
abbrev Takes : (List ℕ → Type 0) → ℕ → List ℕ → Option AcceptPlace → Type 0
Takes L b rest next = MatchOption next (¬ L (b ∷ rest)) (λ next. rest_of next rest ↔ L (b ∷ rest))

-- the same along an equivalence of languages
takes_along : (L M : List ℕ → Type 0) (b : ℕ) (rest : List ℕ) (next : Option AcceptPlace)
    → L (b ∷ rest) ↔ M (b ∷ rest)
    → Takes L b rest next
    → Takes M b rest next
takes_along L M b rest None same law = λ h. law (same.1 h)
takes_along L M b rest (Some next) same law = through law same

-- where an entry may end
from_tail : (b : ℕ) (rest : List ℕ) (w u v : Bool)
    → (b == 44) ≡ w
    → is_blank b ≡ u
    → (b == 59) ≡ v
    → Takes Tail b rest
    (if w then Some Between else option_map Inside (if u then Some Blank else (if v then Some Semicolon else None)))
from_tail b rest true u v comma blank semicolon = tail_comma b rest comma
from_tail b rest false true v comma blank semicolon = tail_blank b rest blank
from_tail b rest false false true comma blank semicolon = tail_semicolon b rest semicolon
from_tail b rest false false false comma blank semicolon = tail_none b rest blank comma semicolon

from_last_word : (b : ℕ) (rest : List ℕ) (w t u v : Bool)
    → (b == 44) ≡ w
    → is_token_byte b ≡ t
    → is_blank b ≡ u
    → (b == 59) ≡ v
    → Takes (RunOn is_token_byte Tail) b rest (if w
    then Some Between
    else option_map Inside (if t then Some LastWord else (if u then Some Blank else (if v then Some Semicolon else None))))
from_last_word b rest true t u v comma is blank semicolon =
    through (tail_comma b rest comma) (run_ends is_token_byte Tail b rest (comma_no_token b comma))
from_last_word b rest false true u v comma is blank semicolon = run_stays is_token_byte Tail b rest is
from_last_word b rest false false u v comma is blank semicolon =
    takes_along Tail (RunOn is_token_byte Tail) b rest
    (option_map Inside (if u then Some Blank else (if v then Some Semicolon else None))) (run_ends is_token_byte Tail b rest is)
    (from_tail b rest false u v comma blank semicolon)

from_weight_end : (L : List ℕ → Type 0) (b : ℕ) (rest : List ℕ)
    → L []
    → (is_token_byte b ≡ true → ¬ L (b ∷ run is_token_byte rest))
    → Takes (WeightOn L) b rest (behind_entry b)
from_weight_end L b rest empty stuck = by_token (is_token_byte b) refl
  where
    none : is_token_byte b ≡ true
        → (w u v : Bool)
        → (b == 44) ≡ w
        → is_blank b ≡ u
        → (b == 59) ≡ v
        → Takes (WeightOn L) b rest
        (if w then Some Between else option_map Inside (if u then Some Blank else (if v then Some Semicolon else None)))
    none token true u v comma blank semicolon = absurd (false≢true (sym (comma_no_token b comma) ∙ token))
    none token false true v comma blank semicolon = absurd (false≢true (sym (blank_no_token b blank) ∙ token))
    none token false false true comma blank semicolon = absurd (false≢true (sym (semicolon_no_token b semicolon) ∙ token))
    none token false false false comma blank semicolon = λ h. stuck token (along L _ _ (run_more b rest token) h.0)

    by_token : (t : Bool) → is_token_byte b ≡ t → Takes (WeightOn L) b rest (behind_entry b)
    by_token true token = none token (b == 44) (is_blank b) (b == 59) refl refl refl
    by_token false token =
        takes_along Tail (WeightOn L) b rest (behind_entry b) (weight_ends L b rest empty token)
        (from_tail b rest (b == 44) (is_blank b) (b == 59) refl refl refl)

from_whole : (most b : ℕ) (rest : List ℕ) (x : Bool)
    → (b == 46) ≡ x
    → Takes (WeightOn (FractionTo most)) b rest (if x then Some (Digits most 3) else behind_entry b)
from_whole most b rest true point =
    weight_goes (DigitsTo most 3) (FractionTo most) b rest (point_token b point) (λ r. (equal b 46 point, r), λ h. h.1)
from_whole most b rest false point = from_weight_end (FractionTo most) b rest tt (λ token h. differ b 46 point h.0)

zero_lt_suc : (n : ℕ) → nat_lt 0 (suc n) ≡ true
zero_lt_suc n = grind (arith, nat_tests)

from_digits : (most left b : ℕ) (rest : List ℕ) (x : Bool) → (nat_lt 0 left && is_digit_to most b) ≡ x
    → Takes (WeightOn (DigitsTo most left)) b rest (if x then Some (Digits most (left - 1)) else behind_entry b)
from_digits most zero b rest true digit = absurd (false≢true digit)
from_digits most zero b rest false digit = from_weight_end (DigitsTo most zero) b rest tt (λ token h. h)
from_digits most (suc left) b rest true digit =
    let is : is_digit_to most b ≡ true = sym (ap (λ (t : Bool). t && is_digit_to most b) (zero_lt_suc left)) ∙ digit in
    let Law : ℕ → Type 0 = λ n. WeightOn (DigitsTo most n) rest ↔ WeightOn (DigitsTo most (suc left)) (b ∷ rest) in
    subst Law (sym (sub-one (suc left)))
    (weight_goes (DigitsTo most left) (DigitsTo most (suc left)) b rest (digit_token most b is) (λ r. (is, r), λ h. h.1))
from_digits most (suc left) b rest false digit =
    let is : is_digit_to most b ≡ false = sym (ap (λ (t : Bool). t && is_digit_to most b) (zero_lt_suc left)) ∙ digit in
    from_weight_end (DigitsTo most (suc left)) b rest tt (λ token h. false≢true (sym is ∙ h.0))

from_weight_start : (b : ℕ) (rest : List ℕ) (x y : Bool)
    → (b == 48) ≡ x
    → (b == 49) ≡ y
    → Takes (WeightOn IsWeight) b rest (if x then Some (Whole 57) else (if y then Some (Whole 48) else None))
from_weight_start b rest true y nought one =
    weight_goes (FractionTo 57) IsWeight b rest (zero_token b nought) (
      λ r. inl (equal b 48 nought, r),
      λ h. elim h [ inl zeros ↦ zeros.1 | inr ones ↦ absurd (both b (equal b 48 nought) ones.0) ],
    )
  where
    both : (b : ℕ) → b ≡ 48 → b ≡ 49 → ⊥
    both b p q = omega arith
from_weight_start b rest false true nought one =
    weight_goes (FractionTo 48) IsWeight b rest (one_token b one) (
      λ r. inr (equal b 49 one, r),
      λ h. elim h [ inl zeros ↦ absurd (differ b 48 nought zeros.0) | inr ones ↦ ones.1 ],
    )
from_weight_start b rest false false nought one = λ h. by_token (is_token_byte b) h.0
  where
    by_token : (t : Bool) → ¬ IsWeight (if t then b ∷ run is_token_byte rest else [])
    by_token true w = elim w [ inl zeros ↦ differ b 48 nought zeros.0 | inr ones ↦ differ b 49 one ones.0 ]
    by_token false w = w

from_weight_name : (b : ℕ) (rest : List ℕ) (t u : Bool)
    → is_token_byte b ≡ t
    → (b == 61) ≡ u
    → Takes WeightNameOn b rest (if t then Some (Inside Name) else (if u then Some WeightStart else None))
from_weight_name b rest true u is equals = (
  λ r. inl (is, (name_stays b rest is).0 r),
  λ h. elim h [ inl word ↦ (name_stays b rest is).1 word.1 | inr weight ↦ absurd (no_equals b is (weight_at weight)) ],
)
  where
    no_equals : (b : ℕ) → is_token_byte b ≡ true → b ≡ 61 → ⊥
    no_equals b is e = false≢true (sym (ap is_token_byte e) ∙ is)

    weight_at : ByteThen 61 (b ∷ rest) (WeightOn IsWeight) → b ≡ 61
    weight_at q = let same : b ∷ rest ≡ 61 ∷ q.behind = q.is in cc same
from_weight_name b rest false true is equals = (
  λ r. inr (byte_in 61 b rest (WeightOn IsWeight) equals r),
  λ h. elim h [
    | inl word ↦ absurd (word_misses (NameOn Tail) b rest is word)
    | inr weight ↦ byte_out 61 b rest (WeightOn IsWeight) weight
  ],
)
from_weight_name b rest false false is equals = λ h. elim h [
  | inl word ↦ word_misses (NameOn Tail) b rest is word
  | inr weight ↦ byte_other 61 b rest (WeightOn IsWeight) equals weight
]

from_semicolon : (b : ℕ) (rest : List ℕ) (q u t : Bool)
    → is_q b ≡ q
    → is_blank b ≡ u
    → is_token_byte b ≡ t
    → Takes (RunOn is_blank ParameterOn) b rest
    (if q then Some WeightName else option_map Inside (if u then Some Semicolon else (if t then Some Name else None)))
from_semicolon b rest true u t weight blank is =
    through (at_q (is_q b) weight) (run_ends is_blank ParameterOn b rest (q_no_blank b weight))
  where
    at_q : (q : Bool)
        → q ≡ true
        → WeightNameOn rest ↔ MatchBool q (WeightNameOn rest) ((is_token_byte b ≡ true) × NameOn Tail rest)
    at_q true e = (λ r. r, λ h. h)
    at_q false e = absurd (false≢true e)
from_semicolon b rest false true t weight blank is = run_stays is_blank ParameterOn b rest blank
from_semicolon b rest false false true weight blank is =
    through (at_other (is_q b) weight) (run_ends is_blank ParameterOn b rest blank)
  where
    at_other : (q : Bool)
        → q ≡ false
        → NameOn Tail rest ↔ MatchBool q (WeightNameOn rest) ((is_token_byte b ≡ true) × NameOn Tail rest)
    at_other true e = absurd (false≢true (sym e))
    at_other false e = (λ r. (is, r), λ h. h.1)
from_semicolon b rest false false false weight blank is =
    λ h. at_none (is_q b) weight ((run_ends is_blank ParameterOn b rest blank).1 h)
  where
    at_none : (q : Bool) → q ≡ false → ¬ MatchBool q (WeightNameOn rest) ((is_token_byte b ≡ true) × NameOn Tail rest)
    at_none true e h = false≢true (sym e)
    at_none false e h = false≢true (sym is ∙ h.0)

from_between : (b : ℕ) (rest : List ℕ) (g t : Bool)
    → is_gap b ≡ g
    → is_token_byte b ≡ t
    → Takes IsAccept b rest (if g then Some Between else (if t then Some (Inside Top) else None))
from_between b rest true t gap is =
    let same = run_on is_gap b rest gap in (
      λ r. (r.0, (r.1.0, lists_along r.1.0 rest (b ∷ rest) (sym same) r.1.1, r.1.2)),
      λ h. (h.0, (h.1.0, lists_along h.1.0 (b ∷ rest) rest same h.1.1, h.1.2)),
    )
from_between b rest false true gap is =
    through (word_begins (TopOn Tail) b rest is (mark_stays is_token_byte 47 (SubOn Tail) b rest is)) (first_media b rest gap)
from_between b rest false false gap is = λ h. word_misses (TopOn Tail) b rest is ((first_media b rest gap).1 h)

from_top_start : (b : ℕ) (rest : List ℕ) (t : Bool)
    → is_token_byte b ≡ t
    → Takes (WordOn (TopOn Tail)) b rest (option_map Inside (if t then Some Top else None))
from_top_start b rest true is = word_begins (TopOn Tail) b rest is (mark_stays is_token_byte 47 (SubOn Tail) b rest is)
from_top_start b rest false is = word_misses (TopOn Tail) b rest is

from_top : (b : ℕ) (rest : List ℕ) (t u : Bool)
    → is_token_byte b ≡ t
    → (b == 47) ≡ u
    → Takes (TopOn Tail) b rest (option_map Inside (if t then Some Top else (if u then Some SubStart else None)))
from_top b rest true u is slash = mark_stays is_token_byte 47 (SubOn Tail) b rest is
from_top b rest false true is slash = mark_comes is_token_byte 47 (SubOn Tail) b rest is slash
from_top b rest false false is slash = mark_misses is_token_byte 47 (SubOn Tail) b rest is slash

from_sub_start : (b : ℕ) (rest : List ℕ) (t : Bool)
    → is_token_byte b ≡ t
    → Takes (SubOn Tail) b rest (option_map Inside (if t then Some LastWord else None))
from_sub_start b rest true is = sub_begins Tail b rest is
from_sub_start b rest false is = word_misses (RunOn is_token_byte Tail) b rest is

from_name : (b : ℕ) (rest : List ℕ) (t u : Bool)
    → is_token_byte b ≡ t
    → (b == 61) ≡ u
    → Takes (NameOn Tail) b rest (option_map Inside (if t then Some Name else (if u then Some ValueStart else None)))
from_name b rest true u is equals = mark_stays is_token_byte 61 (ValueOn Tail) b rest is
from_name b rest false true is equals = mark_comes is_token_byte 61 (ValueOn Tail) b rest is equals
from_name b rest false false is equals = mark_misses is_token_byte 61 (ValueOn Tail) b rest is equals

from_value_start : (b : ℕ) (rest : List ℕ) (t u : Bool) → is_token_byte b ≡ t → (b == 34) ≡ u
    → Takes (ValueOn Tail) b rest (option_map Inside (if t then Some LastWord else (if u then Some Quoted else None)))
from_value_start b rest true u is quote = value_begins Tail b rest is
from_value_start b rest false true is quote = value_opens Tail b rest is quote
from_value_start b rest false false is quote = value_misses Tail b rest is quote

from_quoted : (b : ℕ) (rest : List ℕ) (t u v : Bool)
    → (b == 34) ≡ t
    → (b == 92) ≡ u
    → is_quoted_byte b ≡ v
    → Takes (QuotedOn Tail false) b rest
    (option_map Inside (if t then Some Closed else (if u then Some Escaped else (if v then Some Quoted else None))))
from_quoted b rest true u v quote slash is = quoted_closes Tail b rest quote
from_quoted b rest false true v quote slash is = quoted_escapes Tail b rest quote slash
from_quoted b rest false false true quote slash is = quoted_stays Tail b rest quote slash is
from_quoted b rest false false false quote slash is = quoted_misses Tail b rest quote slash is

from_escaped : (b : ℕ) (rest : List ℕ) (t : Bool) → is_field_value_byte b ≡ t
    → Takes (QuotedOn Tail true) b rest (option_map Inside (if t then Some Quoted else None))
from_escaped b rest true is = escaped_stays Tail b rest is
from_escaped b rest false is = escaped_misses Tail b rest is

goes_inside : (place : MediaPlace) (b : ℕ) (rest : List ℕ) → Takes (rest_inside place) b rest (after_inside place b)
goes_inside TopStart b rest = from_top_start b rest (is_token_byte b) refl
goes_inside Top b rest = from_top b rest (is_token_byte b) (b == 47) refl refl
goes_inside SubStart b rest = from_sub_start b rest (is_token_byte b) refl
goes_inside LastWord b rest = from_last_word b rest (b == 44) (is_token_byte b) (is_blank b) (b == 59) refl refl refl refl
goes_inside Blank b rest = from_tail b rest (b == 44) (is_blank b) (b == 59) refl refl refl
goes_inside Semicolon b rest = from_semicolon b rest (is_q b) (is_blank b) (is_token_byte b) refl refl refl
goes_inside Name b rest = from_name b rest (is_token_byte b) (b == 61) refl refl
goes_inside ValueStart b rest = from_value_start b rest (is_token_byte b) (b == 34) refl refl
goes_inside Quoted b rest = from_quoted b rest (b == 34) (b == 92) (is_quoted_byte b) refl refl refl
goes_inside Escaped b rest = from_escaped b rest (is_field_value_byte b) refl
goes_inside Closed b rest = from_tail b rest (b == 44) (is_blank b) (b == 59) refl refl refl

pub goes_on : (place : AcceptPlace) (b : ℕ) (rest : List ℕ)
    → MatchOption (place_after place b) (¬ rest_of place (b ∷ rest)) (λ next. rest_of next rest ↔ rest_of place (b ∷ rest))
goes_on Between b rest = from_between b rest (is_gap b) (is_token_byte b) refl refl
goes_on (Inside place) b rest = goes_inside place b rest
goes_on WeightName b rest = from_weight_name b rest (is_token_byte b) (b == 61) refl refl
goes_on WeightStart b rest = from_weight_start b rest (b == 48) (b == 49) refl refl
goes_on (Whole most) b rest = from_whole most b rest (b == 46) refl
goes_on (Digits most left) b rest = from_digits most left b rest (nat_lt 0 left && is_digit_to most b) refl

-- nothing may follow
tail_end : Tail []
tail_end = (([], [], tt), inl (refl, refl))

ends_inside : (place : MediaPlace) → (may_end_inside place ≡ true) ↔ rest_inside place []
ends_inside TopStart = (λ e. absurd (false≢true e), λ h. absurd h.0)
ends_inside Top = (λ e. absurd (false≢true e), λ h. absurd (byte_none 47 (SubOn Tail) h))
ends_inside SubStart = (λ e. absurd (false≢true e), λ h. absurd h.0)
ends_inside LastWord = (λ _. tail_end, λ _. refl)
ends_inside Blank = (λ _. tail_end, λ _. refl)
ends_inside Semicolon = (λ e. absurd (false≢true e), λ h. absurd h)
ends_inside Name = (λ e. absurd (false≢true e), λ h. absurd (byte_none 61 (ValueOn Tail) h))
ends_inside ValueStart = (
  λ e. absurd (false≢true e),
  λ h. absurd (elim h [ inl token ↦ token.0 | inr quoted ↦ byte_none 34 (QuotedOn Tail false) quoted ]),
)
ends_inside Quoted = (λ e. absurd (false≢true e), λ h. absurd (cc h.1))
ends_inside Escaped = (λ e. absurd (false≢true e), λ h. absurd (cc h.1))
ends_inside Closed = (λ _. tail_end, λ _. refl)

pub ends : (place : AcceptPlace) → (may_end place ≡ true) ↔ rest_of place []
ends Between = (λ _. ([], ([], refl, refl)), λ _. refl)
ends (Inside place) = ends_inside place
ends WeightName = (
  λ e. absurd (false≢true e),
  λ h. absurd (elim h [ inl word ↦ word.0 | inr weight ↦ byte_none 61 (WeightOn IsWeight) weight ]),
)
ends WeightStart = (λ e. absurd (false≢true e), λ h. absurd h.0)
ends (Whole most) = (λ _. (tt, tail_end), λ _. refl)
ends (Digits most left) = (λ _. (digits_end left, tail_end), λ _. refl)
  where
    digits_end : (left : ℕ) → DigitsTo most left []
    digits_end left = tt

last_word : SubOn Tail (97 ∷ [])
last_word = (refl, tail_end)

last_name : NameOn Tail (61 ∷ 97 ∷ [])
last_name = record { behind = 97 ∷ []; is = refl; rest = inl last_word }

leads_inside : (place : MediaPlace) → Begins (rest_inside place) []
leads_inside TopStart = (97 ∷ 47 ∷ 97 ∷ [], (refl, record { behind = 97 ∷ []; is = refl; rest = last_word }))
leads_inside Top = (47 ∷ 97 ∷ [], record { behind = 97 ∷ []; is = refl; rest = last_word })
leads_inside SubStart = (97 ∷ [], last_word)
leads_inside LastWord = ([], tail_end)
leads_inside Blank = ([], tail_end)
leads_inside Semicolon = (97 ∷ 61 ∷ 97 ∷ [], (refl, last_name))
leads_inside Name = (61 ∷ 97 ∷ [], last_name)
leads_inside ValueStart = (97 ∷ [], inl last_word)
leads_inside Quoted = (34 ∷ [], ([], refl, tail_end))
leads_inside Escaped = (97 ∷ 34 ∷ [], ([], refl, tail_end))
leads_inside Closed = ([], tail_end)

last_weight : WeightOn IsWeight (48 ∷ [])
last_weight = (inl (refl, tt), tail_end)

pub leads_on : (place : AcceptPlace) → Begins (rest_of place) []
leads_on Between = ([], ([], ([], refl, refl)))
leads_on (Inside place) = leads_inside place
leads_on WeightName = (61 ∷ 48 ∷ [], inr record { behind = 48 ∷ []; is = refl; rest = last_weight })
leads_on WeightStart = (48 ∷ [], last_weight)
leads_on (Whole most) = ([], (tt, tail_end))
leads_on (Digits most left) = ([], (tt, tail_end))
