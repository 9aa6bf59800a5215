-- A cookie's text is read again as the cookie.
use Rattle.std.proofs.Common.{◌≡◌, ◌≢◌, ℕ, ◌^◌, ◌<◌, Bool, true, false, not, List, [], ◌∷◌, ◌++◌, length, map, flat_map, fold, All, Option, Some, None, option_map, IsUtf8, refl, sym, ap, ◌∙◌, subst, arith, append_assoc, append-nil}
use Rattle.std.specs.List.{position_or_len, before_first, after_first, slice_split, list_any}
use Rattle.std.specs.Str.{trim, trim_start, trim_end, chars}
use lib.Utf8.{encode}
use Rattle.std.proofs.Math.Bool.{or-true}
use Rattle.std.proofs.Math.Seq.{take-append_seam, drop-append-add}
use Rattle.std.proofs.lemmas.List.{take_all, drop_all}
use Rattle.std.proofs.lemmas.Bool.{cond-true, cond-false}
use Rattle.std.proofs.lemmas.Bool.Decides.{nat_tests}
use Rattle.std.proofs.lemmas.List.Elements.{All-nil, All-cons, All-head, All-tail, All-append, All-weaker}
use Rattle.std.proofs.lemmas.List.Folds.{list_any-append}
use Rattle.std.proofs.lemmas.List.Splits.{slice_split_at, slice_split_none}
use Rattle.std.proofs.lemmas.List.Sums.{fold-append}
use Rattle.percent_encoding.specs.Percent.{percent_decode}
use Rattle.rkt_cookie.specs.declared.same_site.SameSite.{SameSite}
use Rattle.rkt_cookie.specs.declared.attribute.Attribute.{Attribute}
use Rattle.rkt_cookie.specs.declared.attribute.Attribute.TheVariants as attribute
use Rattle.rkt_cookie.specs.Attribute.{attribute_text, attributes_of, flag, listed, shown_secure, with_attribute}
use Rattle.rkt_cookie.specs.Cookie.{Parts, bare}
use Rattle.rkt_cookie.specs.Date.{dated}
use Rattle.rkt_cookie.specs.Encoded.{appended, escaped, encoded_text}
use Rattle.rkt_cookie.specs.Reading.{IsPair, Reads, attribute_of, first_piece, later_pieces, is_semicolon, is_equals, name_in, value_in, with_any, with_piece}
use Rattle.rkt_cookie.specs.ReadBack.{IsPrintable, flag_back, read_back}
use Rattle.rkt_cookie.proofs.EscapeLemmas.{IsEscapedByte, All-escaped, escaped_nonempty}
use Rattle.rkt_cookie.proofs.LastSaid.{last_said_is}
use Rattle.rkt_cookie.proofs.PrintedLemmas.{IsReadable, attribute_read, no_semicolon}
use Rattle.rkt_cookie.proofs.TrimLemmas.{IsGraphic, trim_graphic}

-- ---- where a text is cut

place_at : (p : ℕ → Bool) (xs : List ℕ) (y : ℕ) (ys : List ℕ) → All (λ x. p x ≡ false) xs → p y ≡ true → position_or_len p (xs ++ y ∷ ys) ≡ length xs
place_at p [] y ys none here = cond-false _ _ _ (ap not here)
place_at p (x ∷ xs) y ys none here =
    let rest = place_at p xs y ys (All-tail (λ x. p x ≡ false) x xs none) here in
    cond-true _ _ _ (ap not (All-head (λ x. p x ≡ false) x xs none)) ∙ omega arith

before_at : (p : ℕ → Bool) (xs : List ℕ) (y : ℕ) (ys : List ℕ) → All (λ x. p x ≡ false) xs → p y ≡ true → before_first p (xs ++ y ∷ ys) ≡ xs
before_at p xs y ys none here = rw (place_at p xs y ys none here) (take-append_seam xs (y ∷ ys))

after_at : (p : ℕ → Bool) (xs : List ℕ) (y : ℕ) (ys : List ℕ) → All (λ x. p x ≡ false) xs → p y ≡ true → after_first p (xs ++ y ∷ ys) ≡ ys
after_at p xs y ys none here = rw (place_at p xs y ys none here) (drop-append-add xs (y ∷ ys) 1)

place_none : (p : ℕ → Bool) (xs : List ℕ) → All (λ x. p x ≡ false) xs → position_or_len p xs ≡ length xs
place_none p [] none = refl
place_none p (x ∷ xs) none =
    let rest = place_none p xs (All-tail (λ x. p x ≡ false) x xs none) in
    cond-true _ _ _ (ap not (All-head (λ x. p x ≡ false) x xs none)) ∙ omega arith

before_none : (p : ℕ → Bool) (xs : List ℕ) → All (λ x. p x ≡ false) xs → before_first p xs ≡ xs
before_none p xs none = take_all _ xs (omega (arith, place_none p xs none))

after_none : (p : ℕ → Bool) (xs : List ℕ) → All (λ x. p x ≡ false) xs → after_first p xs ≡ []
after_none p xs none = drop_all _ xs (omega (arith, place_none p xs none))

-- ---- the first piece

no_cut : (bs : List ℕ) → All (λ b. b ≢ 59) bs → All (λ b. is_semicolon b ≡ false) bs
no_cut bs none = All-weaker (λ b. b ≢ 59) (λ b. is_semicolon b ≡ false) (λ b other. grind (arith, nat_tests)) bs none

-- the name and the value as they are printed
abbrev printed_pair : Parts → List ℕ
printed_pair c = escaped c.name ++ 61 ∷ escaped c.value

pair_uncut : (c : Parts) → All (λ b. b ≢ 59) (printed_pair c)
pair_uncut c =
    let uncut : (part : List ℕ) → All (λ b. b ≢ 59) (escaped part)
    = λ part. All-weaker IsEscapedByte (λ b. b ≢ 59) (λ b h. h.2) (escaped part) (All-escaped part) in
    All-append (λ b. b ≢ 59) (escaped c.name) (61 ∷ escaped c.value) (uncut c.name)
    (All-cons (λ b. b ≢ 59) 61 (escaped c.value) (λ e. omega arith) (uncut c.value))

trim_escaped : (part : List ℕ) → trim (escaped part) ≡ escaped part
trim_escaped part = trim_graphic (escaped part) (All-weaker IsEscapedByte IsGraphic (λ b h. (h.0, h.1)) (escaped part) (All-escaped part))

name_unequal : (part : List ℕ) → All (λ b. is_equals b ≡ false) (escaped part)
name_unequal part =
    All-weaker IsEscapedByte (λ b. is_equals b ≡ false) (λ b h. let other = h.3 in grind (arith, nat_tests, other)) (escaped part) (All-escaped part)

-- both parts are texts, and unescaping undoes what was escaped
pub record IsSound (part : List ℕ) : Type 0 where
  pub text : IsUtf8 part
  pub back : percent_decode (escaped part) ≡ part

pair_read : (c : Parts) → c.name ≢ [] → IsSound c.name → IsSound c.value → IsPair (printed_pair c) c.name c.value
pair_read c named name value =
    let front = before_at is_equals (escaped c.name) 61 (escaped c.value) (name_unequal c.name) refl in
    let behind = after_at is_equals (escaped c.name) 61 (escaped c.value) (name_unequal c.name) refl in
    let has : list_any is_equals (printed_pair c) ≡ true = list_any-append is_equals (escaped c.name) (61 ∷ escaped c.value) ∙ or-true _ in
    let name_is : name_in (printed_pair c) ≡ escaped c.name = ap trim front ∙ trim_escaped c.name in
    let value_is : value_in (printed_pair c) ≡ Some (escaped c.value) = cond-true _ _ _ has ∙ ap (λ v. Some (trim v)) behind ∙ ap Some (trim_escaped c.value) in
    record {
      named = λ none. escaped_nonempty c.name named (sym name_is ∙ none);
      name_read = sym name.back ∙ ap percent_decode (sym name_is);
      value_read = ap (option_map percent_decode) value_is ∙ ap Some value.back;
      name_utf8 = name.text;
      value_utf8 = value.text;
    }

-- ---- the later pieces

-- an attribute as it stands behind its semicolon
abbrev piece : Attribute → List ℕ
piece a = 32 ∷ attribute_text a

piece_uncut : (a : Attribute) → IsReadable a → All (λ b. is_semicolon b ≡ false) (piece a)
piece_uncut a h = no_cut (piece a) (All-cons (λ b. b ≢ 59) 32 (attribute_text a) (λ e. omega arith) (no_semicolon a h))

later : (a : Attribute) (rest : List Attribute) → IsReadable a → All IsReadable rest → slice_split is_semicolon (piece a ++ flat_map appended rest) ≡ map piece (a ∷ rest)
later a [] h hs = ap (slice_split is_semicolon) (append-nil (piece a)) ∙ slice_split_none is_semicolon (piece a) (piece_uncut a h)
later a (b ∷ bs) h hs =
    slice_split_at is_semicolon (piece a) 59 (piece b ++ flat_map appended bs) (piece_uncut a h) refl
    ∙ ap (λ l. piece a ∷ l) (later b bs (All-head IsReadable b bs hs) (All-tail IsReadable b bs hs))

fold_read : (x : Parts) (rest : List Attribute) → All IsReadable rest → fold with_piece x (map piece rest) ≡ fold with_attribute x rest
fold_read x [] h = refl
fold_read x (a ∷ rest) h =
    ap (λ o. fold with_piece (with_any x o) (map piece rest)) (attribute_read a (All-head IsReadable a rest h))
    ∙ fold_read (with_attribute x a) rest (All-tail IsReadable a rest h)

pub nothing_read : attribute_of [] ≡ None
unfolding trim_start trim_end chars encode
nothing_read = refl

-- a pair with attributes behind it, read piece by piece
pieces_read : (x : Parts) (pair : List ℕ) (rest : List Attribute) → All (λ b. b ≢ 59) pair → All IsReadable rest →
    (first_piece (pair ++ flat_map appended rest) ≡ pair) × (fold with_piece x (later_pieces (pair ++ flat_map appended rest)) ≡ fold with_attribute x rest)
pieces_read x pair [] uncut h =
    rw append-nil (
      before_none is_semicolon pair (no_cut pair uncut),
      ap (λ l. fold with_piece x (slice_split is_semicolon l)) (after_none is_semicolon pair (no_cut pair uncut)) ∙ ap (with_any x) nothing_read,
    )
pieces_read x pair (a ∷ rest) uncut h = (
  before_at is_semicolon pair 59 (piece a ++ flat_map appended rest) (no_cut pair uncut) refl,
  ap (λ l. fold with_piece x (slice_split is_semicolon l)) (after_at is_semicolon pair 59 (piece a ++ flat_map appended rest) (no_cut pair uncut) refl)
      ∙ ap (fold with_piece x) (later a rest (All-head IsReadable a rest h) (All-tail IsReadable a rest h)) ∙ fold_read x (a ∷ rest) h,
)

-- ---- the attributes

http_only_set : (x : Parts) (o : Option Bool) → fold with_attribute (record x { http_only = None }) (flag o attribute.HttpOnly) ≡ record x { http_only = flag_back o }
http_only_set x (Some true) = refl
http_only_set x (Some false) = refl
http_only_set x None = refl

same_site_set : (x : Parts) (o : Option SameSite) → fold with_attribute (record x { same_site = None }) (listed attribute.SameSite o) ≡ record x { same_site = o }
same_site_set x (Some site) = refl
same_site_set x None = refl

secure_set : (x : Parts) (o : Option Bool) → fold with_attribute (record x { secure = None }) (flag o attribute.Secure) ≡ record x { secure = flag_back o }
secure_set x (Some true) = refl
secure_set x (Some false) = refl
secure_set x None = refl

path_set : (x : Parts) (o : Option (List ℕ)) → fold with_attribute (record x { path = None }) (listed attribute.Path o) ≡ record x { path = o }
path_set x (Some v) = refl
path_set x None = refl

domain_set : (x : Parts) (o : Option (List ℕ)) → fold with_attribute (record x { domain = None }) (listed attribute.Domain o) ≡ record x { domain = o }
domain_set x (Some v) = refl
domain_set x None = refl

max_age_set : (x : Parts) (o : Option ℕ) → fold with_attribute (record x { max_age = None }) (listed attribute.MaxAge o) ≡ record x { max_age = o }
max_age_set x (Some n) = refl
max_age_set x None = refl

expires_set : (x : Parts) (o : Option ℕ) → fold with_attribute (record x { expires = None }) (listed (λ moment. attribute.Expires (dated moment)) o) ≡ record x { expires = option_map dated o }
expires_set x (Some n) = refl
expires_set x None = refl

-- one list of attributes behind another
then_set : (x y : Parts) (rest bs : List Attribute) → fold with_attribute x rest ≡ y → fold with_attribute x (rest ++ bs) ≡ fold with_attribute y bs
then_set x y rest bs e = fold-append with_attribute x rest bs ∙ ap (λ z. fold with_attribute z bs) e

attributes_set : (c : Parts) → fold with_attribute (bare c.name c.value) (attributes_of c) ≡ read_back c
attributes_set c =
    let x0 = bare c.name c.value in
    let x1 = record x0 { http_only = flag_back c.http_only } in
    let x2 = record x1 { same_site = c.same_site } in
    let x3 = record x2 { secure = flag_back (shown_secure c.secure c.same_site) } in
    let x4 = record x3 { path = c.path } in
    let x5 = record x4 { domain = c.domain } in
    let x6 = record x5 { max_age = c.max_age } in
    let l1 = flag c.http_only attribute.HttpOnly in
    let l2 = listed attribute.SameSite c.same_site in
    let l3 = flag (shown_secure c.secure c.same_site) attribute.Secure in
    let l4 = listed attribute.Path c.path in
    let l5 = listed attribute.Domain c.domain in
    let l6 = listed attribute.MaxAge c.max_age in
    let l7 = listed (λ moment. attribute.Expires (dated moment)) c.expires in
    let e1 = http_only_set x0 c.http_only in
    let e2 = then_set x0 x1 l1 l2 e1 ∙ same_site_set x1 c.same_site in
    let e3 = then_set x0 x2 (l1 ++ l2) l3 e2 ∙ secure_set x2 (shown_secure c.secure c.same_site) in
    let e4 = then_set x0 x3 (l1 ++ l2 ++ l3) l4 e3 ∙ path_set x3 c.path in
    let e5 = then_set x0 x4 (l1 ++ l2 ++ l3 ++ l4) l5 e4 ∙ domain_set x4 c.domain in
    let e6 = then_set x0 x5 (l1 ++ l2 ++ l3 ++ l4 ++ l5) l6 e5 ∙ max_age_set x5 c.max_age in
    then_set x0 x6 (l1 ++ l2 ++ l3 ++ l4 ++ l5 ++ l6) l7 e6 ∙ expires_set x6 c.expires

flag_readable : (o : Option Bool) (a : Attribute) → IsReadable a → All IsReadable (flag o a)
flag_readable (Some true) a h = All-cons IsReadable a [] h (All-nil IsReadable)
flag_readable (Some false) a h = All-nil IsReadable
flag_readable None a h = All-nil IsReadable

listed_readable : {A : Type 0} (f : A → Attribute) (o : Option A) → ((x : A) → o ≡ Some x → IsReadable (f x)) → All IsReadable (listed f o)
listed_readable f (Some x) h = All-cons IsReadable (f x) [] (h x refl) (All-nil IsReadable)
listed_readable f None h = All-nil IsReadable

all_readable : (c : Parts) → IsPrintable c → ((n : ℕ) → c.max_age ≡ Some n → n < 2 ^ 64) → All IsReadable (attributes_of c)
all_readable c h small =
    let a1 = flag_readable c.http_only attribute.HttpOnly tt in
    let a2 = listed_readable attribute.SameSite c.same_site (λ _ _. tt) in
    let a3 = flag_readable (shown_secure c.secure c.same_site) attribute.Secure tt in
    let a4 = listed_readable attribute.Path c.path h.path in
    let a5 = listed_readable attribute.Domain c.domain h.domain in
    let a6 = listed_readable attribute.MaxAge c.max_age small in
    let a7 = listed_readable (λ moment. attribute.Expires (dated moment)) c.expires (λ _ _. omega arith) in
    let l1 = flag c.http_only attribute.HttpOnly in
    let l2 = listed attribute.SameSite c.same_site in
    let l3 = flag (shown_secure c.secure c.same_site) attribute.Secure in
    let l4 = listed attribute.Path c.path in
    let l5 = listed attribute.Domain c.domain in
    let l6 = listed attribute.MaxAge c.max_age in
    let l7 = listed (λ moment. attribute.Expires (dated moment)) c.expires in
    let b2 = All-append IsReadable l1 l2 a1 a2 in
    let b3 = All-append IsReadable (l1 ++ l2) l3 b2 a3 in
    let b4 = All-append IsReadable (l1 ++ l2 ++ l3) l4 b3 a4 in
    let b5 = All-append IsReadable (l1 ++ l2 ++ l3 ++ l4) l5 b4 a5 in
    let b6 = All-append IsReadable (l1 ++ l2 ++ l3 ++ l4 ++ l5) l6 b5 a6 in
    All-append IsReadable (l1 ++ l2 ++ l3 ++ l4 ++ l5 ++ l6) l7 b6 a7

pub read_again : (c : Parts) → IsPrintable c → IsSound c.name → IsSound c.value → ((n : ℕ) → c.max_age ≡ Some n → n < 2 ^ 64) → Reads (encoded_text c) (read_back c)
read_again c h name value small =
    let grouped : printed_pair c ++ flat_map appended (attributes_of c) ≡ encoded_text c = simp append_assoc in
    let pieces = pieces_read (bare c.name c.value) (printed_pair c) (attributes_of c) (pair_uncut c) (all_readable c h small) in
    subst (λ text. Reads text (read_back c)) grouped (record {
      name = c.name;
      value = c.value;
      pair = rw pieces.0 (pair_read c h.named name value);
      attributes = sym (pieces.1 ∙ attributes_set c) ∙ last_said_is c.name c.value (later_pieces (printed_pair c ++ flat_map appended (attributes_of c)));
    })
