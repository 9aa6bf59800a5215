-- What is kept beside headers, when a field is added or put in place of others.
use Rattle.std.proofs.Common.{◌≡◌, ℕ, List, Option, Some, Result, Ok, Err, OnOk, OnErr, codes}
use Rattle.rkt_media.specs.Accept.{Weighed}
use Rattle.rkt_media.specs.AcceptText.{SpellsAccept}
use Rattle.rkt_http.specs.Headers.{Group}
use Rattle.rkt_media.specs.Media.{Media}
use Rattle.rkt_media.specs.MediaText.{SpellsMedia}
use Rattle.rkt_request.specs.RequestHeaders.{IsRead}
use Rattle.rkt_request.specs.Seen.{ReadAs, first_value}
use Rattle.rkt_request.proofs.FirstValues.{read_anew, read_before}

abbrev pub content_type : List ℕ
content_type = codes "Content-Type"

abbrev pub accept : List ℕ
accept = codes "Accept"

-- what holds of both answers
pub both_ways : {T E P P' Q Q' R : Type 0} (r : Result T E) → OnOk r P → OnOk r P' → OnErr r Q → OnErr r Q' → (P → P' → R) → (Q → Q' → R) → R
both_ways (Ok x) p p' q q' on_ok on_err = on_ok p p'
both_ways (Err e) p p' q q' on_ok on_err = on_err q q'

module _ {before : List Group} {kept : Option Media} {accepted : Option (List Weighed)} {any : Media} (was : IsRead before kept accepted any) (after : List Group) where
  pub all_stay : first_value after content_type ≡ first_value before content_type → first_value after accept ≡ first_value before accept → IsRead after kept accepted any
  all_stay types accepts =
      record {
        content_type_read = read_before SpellsMedia content_type before after kept types was.content_type_read;
        accept_read = read_before SpellsAccept accept before after accepted accepts was.accept_read;
        any_is = was.any_is;
      }

  pub content_type_anew : (text : List ℕ) (found : Option Media) → first_value after content_type ≡ Some text → ReadAs SpellsMedia text found
      → first_value after accept ≡ first_value before accept → IsRead after found accepted any
  content_type_anew text found first read accepts =
      record {
        content_type_read = read_anew SpellsMedia content_type after text found first read;
        accept_read = read_before SpellsAccept accept before after accepted accepts was.accept_read;
        any_is = was.any_is;
      }

  pub accept_anew : (text : List ℕ) (found : Option (List Weighed)) → first_value after accept ≡ Some text → ReadAs SpellsAccept text found
      → first_value after content_type ≡ first_value before content_type → IsRead after kept found any
  accept_anew text found first read types =
      record {
        content_type_read = read_before SpellsMedia content_type before after kept types was.content_type_read;
        accept_read = read_anew SpellsAccept accept after text found first read;
        any_is = was.any_is;
      }
