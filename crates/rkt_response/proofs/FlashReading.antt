-- A flash cookie is read again from its text.
use Rattle.std.proofs.Common.{◌≡◌, ◌≢◌, ℕ, ◌<◌, is_some, List, [], length, All, IsUtf8, codes, refl, rules, ap, subst, arith}
use Rattle.std.proofs.lemmas.Bool.{false≢true}
use Rattle.std.proofs.lemmas.List.Elements.{All-nil, All-cons}
use Rattle.std.proofs.lemmas.Str.{IsUtf8-from_ascii}
use Rattle.std.specs.Prelude.{unwrap_or}
use Rattle.std.specs.Str.{trim_start, trim_end, chars}
use lib.Utf8.{encode}
use Rattle.rkt_cookie.specs.Cookie.{Parts, bare}
use Rattle.rkt_cookie.specs.Encoded.{encoded_text}
use Rattle.rkt_cookie.specs.Jar.{addition}
use Rattle.rkt_cookie.specs.ReadBack.{IsPlain, IsPrintable, read_back}
use Rattle.rkt_cookie.specs.Reading.{Reads, first_piece}
use Rattle.rkt_cookie.proofs.EscapeLemmas.{unescaped}
use Rattle.rkt_cookie.proofs.OneReading.{read_alone, reads_one}
use Rattle.rkt_cookie.proofs.ReadBackLemmas.{IsSound, read_again}
use Rattle.rkt_response.specs.Flash.{Flashed, ReadsFlash, SaysFlash, flash_cookie, flash_name, flash_text}
use Rattle.rkt_response.proofs.FlashLemmas.{says_one}

-- a cookie of this name whose value says this alone
reads_flash : (text : List ℕ) (cookie : Parts) (flashed : Flashed) → Reads text cookie → cookie.name ≡ flash_name → SaysFlash cookie.value flashed → ReadsFlash text flashed
reads_flash text cookie flashed reads named says =
    record {
      cookie = cookie;
      reads = reads;
      no_other = λ other h. reads_one text other cookie h reads;
      named = named;
      says = says;
      just = λ other h. says_one cookie.value other flashed h says;
    }

-- without its attributes it is read as the same
pub pair_alone : (text : List ℕ) (flashed : Flashed) → ReadsFlash text flashed → ReadsFlash (first_piece text) flashed
pair_alone text flashed h =
    reads_flash (first_piece text) (bare h.cookie.name h.cookie.value) flashed (read_alone text h.cookie h.reads) h.named h.says

-- ---- the cookie that a jar sends

root_plain : IsPlain (codes "/")
unfolding trim_start trim_end chars encode
root_plain = (All-cons (λ b. b ≢ 59) 47 [] (λ e. omega arith) (All-nil (λ b. b ≢ 59)), refl)

name_sound : IsSound flash_name
name_sound = record { text = IsUtf8-from_ascii flash_name (search rules); back = unescaped flash_name (search rules) }

pub sent_printable : (flashed : Flashed) → IsPrintable (addition (flash_cookie flashed)).cookie
sent_printable flashed =
    record {
      named = λ none. let long = ap length none in omega (arith, long);
      path = λ path is. subst IsPlain (ap (λ o. unwrap_or o []) is) root_plain;
      domain = λ domain is. absurd (false≢true (ap is_some is));
    }

pub sent_reads : (flashed : Flashed) → SaysFlash (flash_text flashed) flashed → IsUtf8 (flash_text flashed) → All (λ b. b < 256) (flash_text flashed)
    → ReadsFlash (encoded_text (addition (flash_cookie flashed)).cookie) flashed
sent_reads flashed says text bytes =
    let cookie = (addition (flash_cookie flashed)).cookie in
    reads_flash (encoded_text cookie) (read_back cookie) flashed
    (read_again cookie (sent_printable flashed) name_sound (record { text = text; back = unescaped (flash_text flashed) bytes }) (λ n is. let age : 300 ≡ n = ap (λ o. unwrap_or o 0) is in omega (arith, age)))
    refl says
