-- What is printed of each attribute is read as that attribute.
use Rattle.std.proofs.Common.{◌≡◌, ◌≢◌, ℕ, ◌+◌, ◌/◌, ◌%◌, ◌^◌, ◌<◌, ◌≤◌, Bool, true, not, ◌&&◌, ◌==◌, nat_lt, List, [], ◌∷◌, ◌++◌, length, All, Some, None, option_map, refl, ap, ◌∙◌, arith, inl, codes, append_assoc}
use Rattle.std.specs.Char.{is_ascii_digit}
use Rattle.std.specs.Fmt.{decimal}
use Rattle.std.specs.List.{list_all}
use Rattle.std.specs.Str.{trim, trim_start, trim_end, chars}
use lib.Utf8.{encode}
use Rattle.std.proofs.lemmas.Bool.{cond-true, cond-false, and_from, lt-ltb, agree_below, agree_below_at}
use Rattle.std.proofs.lemmas.Bool.Decides.{nat_tests}
use Rattle.std.proofs.lemmas.Fmt.{digits_decimal, digits_value-decimal, decimal_nonempty}
use Rattle.std.proofs.lemmas.List.Elements.{All-nil, All-cons, All-append, All-weaker}
use Rattle.std.proofs.lemmas.List.Sums.{AllPass-from_list_all}
use Rattle.std.proofs.lemmas.Str.Ascii.{IsAscii-from_all}
use Rattle.httpdate.specs.declared.parts.Parts.{Parts as DateParts}
use Rattle.httpdate.specs.Date.{parse_secs}
use Rattle.httpdate.specs.Text.{imf_fixdate, day_name, month_name, two_digits, four_digits, time_of_day}
use Rattle.httpdate.specs.Valid.{IsValid}
use Rattle.httpdate.proofs.FormatLemmas.{parse_complete}
use Rattle.httpdate.proofs.ValidLemmas.{is_valid_complete}
use Rattle.rkt_cookie.specs.declared.same_site.SameSite.TheVariants as site
use Rattle.rkt_cookie.specs.declared.attribute.Attribute.{Attribute}
use Rattle.rkt_cookie.specs.declared.attribute.Attribute.TheVariants as attribute
use Rattle.rkt_cookie.specs.Attribute.{attribute_text}
use Rattle.rkt_cookie.specs.Date.{date_of, last_second, moment_text}
use Rattle.rkt_cookie.specs.Reading.{attribute_of, seconds_of, domain_of}
use Rattle.rkt_cookie.specs.ReadBack.{IsPlain}
use Rattle.rkt_cookie.proofs.DateLemmas.{date_of_valid, date_of_secs}
use Rattle.rkt_cookie.proofs.ParseLemmas.{all_digits, own_digits}
use Rattle.rkt_cookie.proofs.TrimLemmas.{IsGraphic, begins_graphic, trim_graphic, trim_between}

-- ---- numbers

abbrev IsDigit : ℕ → Type 0
IsDigit b = (48 ≤ b) × (b ≤ 57)

decimal_digits : (n : ℕ) → n < 2 ^ 64 → All IsDigit (decimal n)
decimal_digits n small =
    All-weaker (λ b. is_ascii_digit b ≡ true) IsDigit (λ b digit. (grind (arith, nat_tests), grind (arith, nat_tests))) (decimal n)
    (AllPass-from_list_all is_ascii_digit (decimal n) (all_digits (decimal n) ∙ digits_decimal own_digits n small))

trim_decimal : (n : ℕ) → n < 2 ^ 64 → trim (decimal n) ≡ decimal n
trim_decimal n small =
    trim_graphic (decimal n) (All-weaker IsDigit IsGraphic (λ b digit. (omega arith, omega arith)) (decimal n) (decimal_digits n small))

seconds_decimal : (n : ℕ) → n < 2 ^ 64 → seconds_of (decimal n) ≡ Some n
seconds_decimal n small =
    let value = digits_value-decimal own_digits n small in
    cond-true _ _ _ (and_from _ _ (digits_decimal own_digits n small) (and_from _ _ (lt-ltb 0 (length (decimal n)) (decimal_nonempty n small)) (rw value (lt-ltb n _ small))))
    ∙ ap Some value

-- ---- dates

-- of ASCII, and no semicolon
abbrev IsDateByte : ℕ → Type 0
IsDateByte b = (b < 128) × (b ≢ 59)

abbrev is_date_byte : ℕ → Bool
is_date_byte b = nat_lt b 128 && not (b == 59)

date_bytes : (bs : List ℕ) → list_all is_date_byte bs ≡ true → All IsDateByte bs
date_bytes bs pass =
    All-weaker (λ b. is_date_byte b ≡ true) IsDateByte (λ b yes. (grind (arith, nat_tests), λ e. grind (arith, nat_tests))) bs
    (AllPass-from_list_all is_date_byte bs pass)

day_names : agree_below (λ n. list_all is_date_byte (day_name n)) (λ _. true) 8 ≡ true
day_names = refl

day_fronts : agree_below (λ n. begins_graphic (day_name n)) (λ _. true) 8 ≡ true
day_fronts = refl

month_names : agree_below (λ n. list_all is_date_byte (month_name n)) (λ _. true) 13 ≡ true
month_names = refl

two_date_digits : (n : ℕ) → n < 100 → All IsDateByte (two_digits n)
two_date_digits n small =
    All-cons IsDateByte (48 + n / 10) ((48 + n % 10) ∷ []) (omega arith, λ e. omega arith)
    (All-cons IsDateByte (48 + n % 10) [] (omega arith, λ e. omega arith) (All-nil IsDateByte))

four_date_digits : (n : ℕ) → n < 10000 → All IsDateByte (four_digits n)
four_date_digits n small =
    All-append IsDateByte (two_digits (n / 100)) (two_digits (n % 100)) (two_date_digits (n / 100) (omega arith)) (two_date_digits (n % 100) (omega arith))

five : (a b c d e : List ℕ) → All IsDateByte a → All IsDateByte b → All IsDateByte c → All IsDateByte d → All IsDateByte e → All IsDateByte (a ++ b ++ c ++ d ++ e)
five a b c d e ha hb hc hd he =
    let P = IsDateByte in
    All-append P (a ++ b ++ c ++ d) e (All-append P (a ++ b ++ c) d (All-append P (a ++ b) c (All-append P a b ha hb) hc) hd) he

-- each date is a day's name, and ends in GMT
abbrev date_middle : DateParts → List ℕ
date_middle p =
    codes ", " ++ two_digits p.day ++ codes " " ++ month_name p.mon ++ codes " "
    ++ four_digits p.year ++ codes " " ++ time_of_day p ++ codes " GM"

grouped : (a b c d e f g h i j k : List ℕ) → a ++ b ++ c ++ d ++ e ++ f ++ g ++ h ++ i ++ (j ++ k) ≡ a ++ (b ++ c ++ d ++ e ++ f ++ g ++ h ++ i ++ j) ++ k
grouped a b c d e f g h i j k = simp append_assoc

date_grouped : (p : DateParts) → imf_fixdate p ≡ day_name p.wday ++ date_middle p ++ 84 ∷ []
date_grouped p =
    grouped (day_name p.wday) (codes ", ") (two_digits p.day) (codes " ") (month_name p.mon) (codes " ") (four_digits p.year) (codes " ") (time_of_day p) (codes " GM") (84 ∷ [])

time_bytes : (p : DateParts) → IsValid p → All IsDateByte (time_of_day p)
time_bytes p h =
    let colon = date_bytes (codes ":") refl in
    five (two_digits p.hour) (codes ":") (two_digits p.min) (codes ":") (two_digits p.sec)
    (two_date_digits p.hour (omega arith)) colon (two_date_digits p.min (omega arith)) colon (two_date_digits p.sec (omega arith))

pub imf_bytes : (p : DateParts) → IsValid p → All IsDateByte (imf_fixdate p)
imf_bytes p h =
    let space = date_bytes (codes " ") refl in
    let day = date_bytes (day_name p.wday) (agree_below_at (λ n. list_all is_date_byte (day_name n)) (λ _. true) 8 p.wday day_names (omega arith)) in
    let month = date_bytes (month_name p.mon) (agree_below_at (λ n. list_all is_date_byte (month_name n)) (λ _. true) 13 p.mon month_names (omega arith)) in
    let front = five (day_name p.wday) (codes ", ") (two_digits p.day) (codes " ") (month_name p.mon)
    day (date_bytes (codes ", ") refl) (two_date_digits p.day (grind (arith, h.0.2.1))) space month in
    let date = five (day_name p.wday ++ codes ", " ++ two_digits p.day ++ codes " " ++ month_name p.mon) (codes " ") (four_digits p.year) (codes " ") (time_of_day p)
    front space (four_date_digits p.year (omega arith)) space (time_bytes p h) in
    All-append IsDateByte (day_name p.wday ++ codes ", " ++ two_digits p.day ++ codes " " ++ month_name p.mon ++ codes " " ++ four_digits p.year ++ codes " " ++ time_of_day p)
    (codes " GMT") date (date_bytes (codes " GMT") refl)

trim_date : (p : DateParts) → IsValid p → trim (imf_fixdate p) ≡ imf_fixdate p
trim_date p h =
    let ascii = IsAscii-from_all (imf_fixdate p) (All-weaker IsDateByte (λ b. b < 128) (λ b d. d.0) (imf_fixdate p) (imf_bytes p h)) in
    let front = agree_below_at (λ n. begins_graphic (day_name n)) (λ _. true) 8 p.wday day_fronts (omega arith) in
    let grouped = date_grouped p in
    rw grouped (trim_between (day_name p.wday) (date_middle p) 84 front (omega arith, omega arith) (rw grouped at ascii))

secs_of_date_text : (moment : ℕ) → moment ≤ last_second → parse_secs (moment_text moment) ≡ Some moment
secs_of_date_text moment small =
    let valid = date_of_valid moment small in
    rw (parse_complete (moment_text moment) (date_of moment) valid (inl refl))
    (cond-true _ _ _ (is_valid_complete (date_of moment) valid) ∙ ap Some (date_of_secs moment small))

-- ---- attributes

read_path : (v : List ℕ) → attribute_of (32 ∷ codes "Path=" ++ v) ≡ Some (attribute.Path (trim v))
unfolding trim_start trim_end chars encode
read_path v = refl

read_domain : (v : List ℕ) → attribute_of (32 ∷ codes "Domain=" ++ v) ≡ option_map attribute.Domain (domain_of (trim v))
unfolding trim_start trim_end chars encode
read_domain v = refl

read_max_age : (v : List ℕ) → attribute_of (32 ∷ codes "Max-Age=" ++ v) ≡ option_map attribute.MaxAge (seconds_of (trim v))
unfolding trim_start trim_end chars encode
read_max_age v = refl

read_expires : (v : List ℕ) → attribute_of (32 ∷ codes "Expires=" ++ v) ≡ option_map attribute.Expires (parse_secs (trim v))
unfolding trim_start trim_end chars encode
read_expires v = refl

nonempty_domain : (v : List ℕ) → v ≢ [] → domain_of v ≡ Some v
nonempty_domain [] some = absurd (some refl)
nonempty_domain (b ∷ bs) some = cond-false (length (b ∷ bs) == 0) None (Some (b ∷ bs)) (grind (arith, nat_tests))

-- an attribute that is read again from its text
abbrev pub IsReadable : Attribute → Type 0
IsReadable attribute.HttpOnly = Unit {0}
IsReadable (attribute.SameSite site) = Unit {0}
IsReadable attribute.Secure = Unit {0}
IsReadable (attribute.Path path) = IsPlain path
IsReadable (attribute.Domain domain) = IsPlain domain × (domain ≢ [])
IsReadable (attribute.MaxAge seconds) = seconds < 2 ^ 64
IsReadable (attribute.Expires moment) = moment ≤ last_second

pub attribute_read : (a : Attribute) → IsReadable a → attribute_of (32 ∷ attribute_text a) ≡ Some a
unfolding trim_start trim_end chars encode
attribute_read attribute.HttpOnly h = refl
attribute_read (attribute.SameSite site.Strict) h = refl
attribute_read (attribute.SameSite site.Lax) h = refl
attribute_read (attribute.SameSite site.None) h = refl
attribute_read attribute.Secure h = refl
attribute_read (attribute.Path path) h = read_path path ∙ ap (λ v. Some (attribute.Path v)) h.1
attribute_read (attribute.Domain domain) h =
    read_domain domain ∙ ap (λ v. option_map attribute.Domain (domain_of v)) h.0.1 ∙ ap (option_map attribute.Domain) (nonempty_domain domain h.1)
attribute_read (attribute.MaxAge seconds) h =
    read_max_age (decimal seconds) ∙ ap (λ v. option_map attribute.MaxAge (seconds_of v)) (trim_decimal seconds h)
    ∙ ap (option_map attribute.MaxAge) (seconds_decimal seconds h)
attribute_read (attribute.Expires moment) h =
    read_expires (moment_text moment) ∙ ap (λ v. option_map attribute.Expires (parse_secs v)) (trim_date (date_of moment) (date_of_valid moment h))
    ∙ ap (option_map attribute.Expires) (secs_of_date_text moment h)

literal_bytes : (bs : List ℕ) → list_all is_date_byte bs ≡ true → All (λ b. b ≢ 59) bs
literal_bytes bs pass = All-weaker IsDateByte (λ b. b ≢ 59) (λ b d. d.1) bs (date_bytes bs pass)

pub no_semicolon : (a : Attribute) → IsReadable a → All (λ b. b ≢ 59) (attribute_text a)
no_semicolon attribute.HttpOnly h = literal_bytes (codes "HttpOnly") refl
no_semicolon (attribute.SameSite site.Strict) h = literal_bytes (codes "SameSite=Strict") refl
no_semicolon (attribute.SameSite site.Lax) h = literal_bytes (codes "SameSite=Lax") refl
no_semicolon (attribute.SameSite site.None) h = literal_bytes (codes "SameSite=None") refl
no_semicolon attribute.Secure h = literal_bytes (codes "Secure") refl
no_semicolon (attribute.Path path) h = All-append (λ b. b ≢ 59) (codes "Path=") path (literal_bytes (codes "Path=") refl) h.0
no_semicolon (attribute.Domain domain) h = All-append (λ b. b ≢ 59) (codes "Domain=") domain (literal_bytes (codes "Domain=") refl) h.0.0
no_semicolon (attribute.MaxAge seconds) h =
    All-append (λ b. b ≢ 59) (codes "Max-Age=") (decimal seconds) (literal_bytes (codes "Max-Age=") refl)
    (All-weaker IsDigit (λ b. b ≢ 59) (λ b d e. omega arith) (decimal seconds) (decimal_digits seconds h))
no_semicolon (attribute.Expires moment) h =
    All-append (λ b. b ≢ 59) (codes "Expires=") (moment_text moment) (literal_bytes (codes "Expires=") refl)
    (All-weaker IsDateByte (λ b. b ≢ 59) (λ b d. d.1) (moment_text moment) (imf_bytes (date_of moment) (date_of_valid moment h)))
