-- The set of bytes that are escaped, as a mask and as a test, and what escaping leaves.
use Rattle.std.proofs.Common.{◌≡◌, ◌≢◌, ℕ, ◌≤◌, true, false, List, [], ◌∷◌, ◌++◌, All, refl, sym, ap, ◌∙◌, arith, ⊎_elim, cond, length}
use Rattle.std.proofs.lemmas.Bool.{agree_below, agree_below_at, both_ways, cases_lt}
use Rattle.std.proofs.lemmas.Bool.Decides.{nat_tests}
use Rattle.percent_encoding.specs.AsciiSet.{should_percent_encode}
use Rattle.percent_encoding.specs.Percent.{percent_encode, percent_encode_byte, percent_decode}
use Rattle.percent_encoding.proofs.PercentLemmas.{All-percent_encode, IsByte, IsEscapeByte, percent_encode_nonempty, round_trip}
use Rattle.rkt_cookie.specs.declared.encode.TheConstants.{ESCAPED}
use Rattle.rkt_cookie.specs.Encoded.{is_escaped, escaped}

agree : agree_below (should_percent_encode ESCAPED) is_escaped 128 ≡ true
unfolding should_percent_encode
agree = refl

escaped_high : (b : ℕ) → 128 ≤ b → should_percent_encode ESCAPED b ≡ is_escaped b
unfolding should_percent_encode
escaped_high b high = grind (arith, nat_tests)

escaped_same : (b : ℕ) → should_percent_encode ESCAPED b ≡ is_escaped b
escaped_same b =
    ⊎_elim (λ low. agree_below_at (should_percent_encode ESCAPED) is_escaped 128 b agree low) (escaped_high b) (cases_lt b 128)

-- escaping by the mask is escaping by the test
pub escaped_is : (part : List ℕ) → percent_encode ESCAPED part ≡ escaped part
unfolding percent_encode
escaped_is [] = refl
escaped_is (b ∷ bs) =
    ap (λ test. cond test (percent_encode_byte b) (b ∷ []) ++ percent_encode ESCAPED bs) (escaped_same b)
    ∙ ap (λ rest. cond (is_escaped b) (percent_encode_byte b) (b ∷ []) ++ rest) (escaped_is bs)

-- what is escaped is unescaped again
pub unescaped : (part : List ℕ) → All IsByte part → percent_decode (escaped part) ≡ part
unescaped part small = ap percent_decode (sym (escaped_is part)) ∙ round_trip ESCAPED part refl small

-- a byte that is seen, and neither a semicolon nor an equals sign
abbrev pub IsEscapedByte : ℕ → Type 0
IsEscapedByte b = (33 ≤ b) × (b ≤ 126) × (b ≢ 59) × (b ≢ 61)

kept_byte : (b : ℕ) → should_percent_encode ESCAPED b ≡ false → IsEscapedByte b
kept_byte b kept =
    let same : is_escaped b ≡ false = sym (escaped_same b) ∙ kept in (
      grind (arith, nat_tests),
      grind (arith, nat_tests),
      λ e. both_ways (is_escaped b) same (rw e refl),
      λ e. both_ways (is_escaped b) same (rw e refl),
    )

escape_byte : (b : ℕ) → IsEscapeByte b → IsEscapedByte b
escape_byte b h = (grind arith, grind arith, λ e. grind arith, λ e. grind arith)

pub All-escaped : (part : List ℕ) → All IsEscapedByte (escaped part)
All-escaped part = rw (← escaped_is part) (All-percent_encode IsEscapedByte ESCAPED part kept_byte escape_byte)

pub escaped_nonempty : (part : List ℕ) → part ≢ [] → escaped part ≢ []
escaped_nonempty [] some e = some refl
escaped_nonempty (b ∷ bs) some e =
    let long = percent_encode_nonempty ESCAPED (b ∷ bs) (omega arith) in
    let none = ap length (escaped_is (b ∷ bs) ∙ e) in
    omega arith
