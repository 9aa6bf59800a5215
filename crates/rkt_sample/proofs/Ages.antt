-- That std reads an age as just the one that a text writes.
use Rattle.std.proofs.Common.{◌≡◌, ◌<◌, ℕ, ◌&&◌, Bool, true, false, List, [], ◌∷◌, Option, Some, None, Result, Ok, Err, String, length, option_and_then, nat_lt, if◌then◌else◌, ap, refl, ◌∙◌}
use Rattle.std.proofs.lemmas.Bool.Decides.{Decides-and, Decides-ltb}
use Rattle.std.specs.Bool.{Decides}
use Rattle.std.specs.Char.{digit_value}
use Rattle.std.specs.List.{list_all}
use Rattle.std.specs.Result.{result_ok}
use Rattle.std.specs.Str.Parse.{AllDigits, ExplainsUnsignedError, HasUnsignedDigitsIfOk, IsNumeral, ParsesUnsigned, digits_value, without_leading_plus}
use Rattle.std.specs.declared.alloc.Global.{Global}
use Rattle.std.specs.declared.num.ParseIntError.{ParseIntError}
use Rattle.rkt_base.specs.declared.want.Want.TheVariants.{Refused}
use Rattle.rkt_param.specs.Reads.{MaybeReads, StdReads}
use Rattle.rkt_sample.specs.Greeting.{age_of, are_digits}

digits_decide : (digits : List ℕ) → Decides (list_all (λ digit. nat_lt (digit_value digit) 10) digits) (AllDigits 10 digits)
digits_decide [] = (λ _. tt, λ _. refl)
digits_decide (digit ∷ digits) = Decides-and _ _ (Decides-ltb (digit_value digit) 10) (digits_decide digits)

writes : (digits : List ℕ) → Decides (are_digits digits && nat_lt (digits_value 10 digits) 256) (IsNumeral 10 digits × (digits_value 10 digits < 256))
writes digits = Decides-and _ _ (Decides-and _ _ (Decides-ltb 0 (length digits)) (digits_decide digits)) (Decides-ltb (digits_value 10 digits) 256)

-- a choice by a test, where what it decides holds, and where it does not
chosen : {P : Type 0} (test : Bool) (x : ℕ) → Decides test P → P → Some x ≡ (if test then Some x else None)
chosen true x decides p = refl
chosen false x decides p = absurd (cc (decides.1 p))

unchosen : {P : Type 0} (test : Bool) (x : ℕ) → Decides test P → ¬ P → None ≡ (if test then Some x else None)
unchosen true x decides not = absurd (not (decides.0 refl))
unchosen false x decides not = refl

age_read : {E : Type 0} (text : List ℕ) (r : Result ℕ E) → ParsesUnsigned 8 10 text r → result_ok r ≡ age_of text
age_read text (Ok x) parsed = let digits = without_leading_plus text in ap Some parsed.1 ∙ chosen _ (digits_value 10 digits) (writes digits) parsed.0
age_read text (Err e) parsed = let digits = without_leading_plus text in unchosen _ (digits_value 10 digits) (writes digits) parsed

-- what a parameter reads of a text
abbrev Reads : List ℕ → Result ℕ (String Global) → Type 0
Reads = StdReads {E = ParseIntError} (λ bs r. ParsesUnsigned 8 10 bs r × ExplainsUnsignedError 10 bs r × HasUnsignedDigitsIfOk bs r)

pub reads_age : (text : List ℕ) (r : Result ℕ (String Global)) → Reads text r → result_ok r ≡ age_of text
reads_age text (Ok x) reads = age_read {E = ParseIntError} text (Ok x) reads.0
reads_age text (Err e) reads = age_read {E = ParseIntError} text (Err reads.1.0) reads.1.1.0

-- of a segment that may be missing
pub some_age : (text : Option (List ℕ)) (x : ℕ) → MaybeReads Reads text (Some (Ok x)) → Some x ≡ option_and_then age_of text
some_age (Some text) x reads = reads_age text (Ok x) reads
some_age None x reads = cc reads

pub no_age : (text : Option (List ℕ)) (e : String Global) → MaybeReads Reads text (Some (Err (Refused e))) → None ≡ option_and_then age_of text
no_age (Some text) e reads = reads_age text (Err e) reads
no_age None e reads = refl
