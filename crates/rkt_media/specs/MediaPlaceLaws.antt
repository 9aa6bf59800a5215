-- What may follow in a media type, byte by byte.
use Rattle.std.proofs.Common.{◌≡◌, ℕ, List, [], ◌∷◌, Bool, true, false, ◌==◌, if◌then◌else◌, refl, inl, inr, ◌↔◌, Option, Some, None, MatchOption}
use Rattle.std.proofs.lemmas.Bool.{false≢true}
use Rattle.rkt_grammar.specs.Grammar.{Begins, is_token_byte, is_field_value_byte}
use Rattle.rkt_media.specs.Runs.{behind_run}
use Rattle.rkt_media.specs.Media.{Parameter}
use Rattle.rkt_media.specs.MediaText.{is_blank, is_quoted_byte, IsMedia}
use Rattle.rkt_media.specs.MediaRestLaws.{through, byte_none, run_stays, run_ends, mark_stays, mark_comes, mark_misses, word_begins, word_misses, sub_begins, value_begins, value_opens, value_misses, quoted_closes, quoted_escapes, quoted_stays, quoted_misses, escaped_stays, escaped_misses, parameter_spelled, media_spelled}
use Rattle.rkt_media.specs.MediaRests.{RunOn, MarkOn, WordOn, SubOn, TopOn, QuotedOn, ValueOn, NameOn}
use Rattle.rkt_media.specs.declared.media_place.MediaPlace.{MediaPlace}
use Rattle.rkt_media.specs.declared.media_place.MediaPlace.TheVariants.{TopStart, Top, SubStart, LastWord, Blank, Semicolon, Name, ValueStart, Quoted, Escaped, Closed}
use Rattle.rkt_media.specs.MediaPlaces.{place_after, may_end, Given, AnyParameters, ParameterOn, rest_of}

-- the law of a place at a byte
abbrev Goes : MediaPlace → ℕ → List ℕ → Option MediaPlace → Type 0
Goes place b rest next = MatchOption next (¬ rest_of place (b ∷ rest)) (λ next. rest_of next rest ↔ rest_of place (b ∷ rest))

-- a media type is a token that goes on as one
media : (text : List ℕ) → WordOn (TopOn AnyParameters) text ↔ IsMedia text
media text = (
  λ r. let m = (media_spelled (List Parameter) Given text).0 r in (record { top = m.0; sub = m.1; parameters = m.2 }, m.3),
  λ h. (media_spelled (List Parameter) Given text).1 (h.0.top, h.0.sub, h.0.parameters, h.1),
)

-- where more follows a value, it is a parameter
more : (b : ℕ) (rest : List ℕ) → MarkOn is_blank 59 (RunOn is_blank ParameterOn) (b ∷ rest) ↔ AnyParameters (b ∷ rest)
more b rest = (
  λ r. let p = (parameter_spelled (List Parameter) Given (behind_run is_blank r.behind)).0 r.rest in
      (p.0 ∷ p.1, record { behind = r.behind; is = r.is; rest = p.2 }),
  λ h. some h.0 h.1,
)
  where
    some : (ps : List Parameter) → Given ps (b ∷ rest) → MarkOn is_blank 59 (RunOn is_blank ParameterOn) (b ∷ rest)
    some [] h = absurd (cc h)
    some (p ∷ ps) h = record {
      behind = h.behind;
      is = h.is;
      rest = (parameter_spelled (List Parameter) Given (behind_run is_blank h.behind)).1 (p, ps, h.rest);
    }

from_top_start : (b : ℕ) (rest : List ℕ) (t : Bool) → is_token_byte b ≡ t → Goes TopStart b rest (if t then Some Top else None)
from_top_start b rest true is =
    through (word_begins (TopOn AnyParameters) b rest is (mark_stays is_token_byte 47 (SubOn AnyParameters) b rest is))
    (media (b ∷ rest))
from_top_start b rest false is = λ h. word_misses (TopOn AnyParameters) b rest is ((media (b ∷ rest)).1 h)

from_top : (b : ℕ) (rest : List ℕ) (t u : Bool)
    → is_token_byte b ≡ t
    → (b == 47) ≡ u
    → Goes Top b rest (if t then Some Top else (if u then Some SubStart else None))
from_top b rest true u is slash = mark_stays is_token_byte 47 (SubOn AnyParameters) b rest is
from_top b rest false true is slash = mark_comes is_token_byte 47 (SubOn AnyParameters) b rest is slash
from_top b rest false false is slash = mark_misses is_token_byte 47 (SubOn AnyParameters) b rest is slash

from_sub_start : (b : ℕ) (rest : List ℕ) (t : Bool)
    → is_token_byte b ≡ t
    → Goes SubStart b rest (if t then Some LastWord else None)
from_sub_start b rest true is = sub_begins AnyParameters b rest is
from_sub_start b rest false is = word_misses (RunOn is_token_byte AnyParameters) b rest is

from_blank : (b : ℕ) (rest : List ℕ) (u v : Bool)
    → is_blank b ≡ u
    → (b == 59) ≡ v
    → Goes Blank b rest (if u then Some Blank else (if v then Some Semicolon else None))
from_blank b rest true v is semicolon = mark_stays is_blank 59 (RunOn is_blank ParameterOn) b rest is
from_blank b rest false true is semicolon = mark_comes is_blank 59 (RunOn is_blank ParameterOn) b rest is semicolon
from_blank b rest false false is semicolon = mark_misses is_blank 59 (RunOn is_blank ParameterOn) b rest is semicolon

-- where a value has ended, the same follows as behind a blank, but for the end
from_closed : (b : ℕ) (rest : List ℕ) (u v : Bool)
    → is_blank b ≡ u
    → (b == 59) ≡ v
    → Goes Closed b rest (if u then Some Blank else (if v then Some Semicolon else None))
from_closed b rest true v is semicolon = through (from_blank b rest true v is semicolon) (more b rest)
from_closed b rest false true is semicolon = through (from_blank b rest false true is semicolon) (more b rest)
from_closed b rest false false is semicolon = λ h. from_blank b rest false false is semicolon ((more b rest).1 h)

from_last_word : (b : ℕ) (rest : List ℕ) (t u v : Bool) → is_token_byte b ≡ t → is_blank b ≡ u → (b == 59) ≡ v
    → Goes LastWord b rest (if t then Some LastWord else (if u then Some Blank else (if v then Some Semicolon else None)))
from_last_word b rest true u v is blank semicolon = run_stays is_token_byte AnyParameters b rest is
from_last_word b rest false true v is blank semicolon =
    through (from_closed b rest true v blank semicolon) (run_ends is_token_byte AnyParameters b rest is)
from_last_word b rest false false true is blank semicolon =
    through (from_closed b rest false true blank semicolon) (run_ends is_token_byte AnyParameters b rest is)
from_last_word b rest false false false is blank semicolon =
    λ h. from_closed b rest false false blank semicolon ((run_ends is_token_byte AnyParameters b rest is).1 h)

from_semicolon : (b : ℕ) (rest : List ℕ) (u t : Bool)
    → is_blank b ≡ u
    → is_token_byte b ≡ t
    → Goes Semicolon b rest (if u then Some Semicolon else (if t then Some Name else None))
from_semicolon b rest true t blank is = run_stays is_blank ParameterOn b rest blank
from_semicolon b rest false true blank is =
    through (word_begins (NameOn AnyParameters) b rest is (mark_stays is_token_byte 61 (ValueOn AnyParameters) b rest is))
    (run_ends is_blank ParameterOn b rest blank)
from_semicolon b rest false false blank is =
    λ h. word_misses (NameOn AnyParameters) b rest is ((run_ends is_blank ParameterOn b rest blank).1 h)

from_name : (b : ℕ) (rest : List ℕ) (t u : Bool)
    → is_token_byte b ≡ t
    → (b == 61) ≡ u
    → Goes Name b rest (if t then Some Name else (if u then Some ValueStart else None))
from_name b rest true u is equals = mark_stays is_token_byte 61 (ValueOn AnyParameters) b rest is
from_name b rest false true is equals = mark_comes is_token_byte 61 (ValueOn AnyParameters) b rest is equals
from_name b rest false false is equals = mark_misses is_token_byte 61 (ValueOn AnyParameters) b rest is equals

from_value_start : (b : ℕ) (rest : List ℕ) (t u : Bool)
    → is_token_byte b ≡ t
    → (b == 34) ≡ u
    → Goes ValueStart b rest (if t then Some LastWord else (if u then Some Quoted else None))
from_value_start b rest true u is quote = value_begins AnyParameters b rest is
from_value_start b rest false true is quote = value_opens AnyParameters b rest is quote
from_value_start b rest false false is quote = value_misses AnyParameters b rest is quote

from_quoted : (b : ℕ) (rest : List ℕ) (t u v : Bool) → (b == 34) ≡ t → (b == 92) ≡ u → is_quoted_byte b ≡ v
    → Goes Quoted b rest (if t then Some Closed else (if u then Some Escaped else (if v then Some Quoted else None)))
from_quoted b rest true u v quote slash is = quoted_closes AnyParameters b rest quote
from_quoted b rest false true v quote slash is = quoted_escapes AnyParameters b rest quote slash
from_quoted b rest false false true quote slash is = quoted_stays AnyParameters b rest quote slash is
from_quoted b rest false false false quote slash is = quoted_misses AnyParameters b rest quote slash is

from_escaped : (b : ℕ) (rest : List ℕ) (t : Bool) → is_field_value_byte b ≡ t
    → Goes Escaped b rest (if t then Some Quoted else None)
from_escaped b rest true is = escaped_stays AnyParameters b rest is
from_escaped b rest false is = escaped_misses AnyParameters b rest is

pub goes_on : (place : MediaPlace) (b : ℕ) (rest : List ℕ)
    → MatchOption (place_after place b) (¬ rest_of place (b ∷ rest)) (λ next. rest_of next rest ↔ rest_of place (b ∷ rest))
goes_on TopStart b rest = from_top_start b rest (is_token_byte b) refl
goes_on Top b rest = from_top b rest (is_token_byte b) (b == 47) refl refl
goes_on SubStart b rest = from_sub_start b rest (is_token_byte b) refl
goes_on LastWord b rest = from_last_word b rest (is_token_byte b) (is_blank b) (b == 59) refl refl refl
goes_on Blank b rest = from_blank b rest (is_blank b) (b == 59) refl refl
goes_on Semicolon b rest = from_semicolon b rest (is_blank b) (is_token_byte b) refl refl
goes_on Name b rest = from_name b rest (is_token_byte b) (b == 61) refl refl
goes_on ValueStart b rest = from_value_start b rest (is_token_byte b) (b == 34) refl refl
goes_on Quoted b rest = from_quoted b rest (b == 34) (b == 92) (is_quoted_byte b) refl refl refl
goes_on Escaped b rest = from_escaped b rest (is_field_value_byte b) refl
goes_on Closed b rest = from_closed b rest (is_blank b) (b == 59) refl refl

pub ends : (place : MediaPlace) → (may_end place ≡ true) ↔ rest_of place []
ends TopStart = (λ e. absurd (false≢true e), λ h. absurd h.1.starts)
ends Top = (λ e. absurd (false≢true e), λ h. absurd (byte_none 47 (SubOn AnyParameters) h))
ends SubStart = (λ e. absurd (false≢true e), λ h. absurd h.0)
ends LastWord = (λ _. ([], refl), λ _. refl)
ends Blank = (λ e. absurd (false≢true e), λ h. absurd (byte_none 59 (RunOn is_blank ParameterOn) h))
ends Semicolon = (λ e. absurd (false≢true e), λ h. absurd h.0)
ends Name = (λ e. absurd (false≢true e), λ h. absurd (byte_none 61 (ValueOn AnyParameters) h))
ends ValueStart = (
  λ e. absurd (false≢true e),
  λ h. absurd (elim h [ inl token ↦ token.0 | inr quoted ↦ byte_none 34 (QuotedOn AnyParameters false) quoted ]),
)
ends Quoted = (λ e. absurd (false≢true e), λ h. absurd (cc h.1))
ends Escaped = (λ e. absurd (false≢true e), λ h. absurd (cc h.1))
ends Closed = (λ _. ([], refl), λ _. refl)

-- a token, and no more
last_word : SubOn AnyParameters (97 ∷ [])
last_word = (refl, ([], refl))

-- a name and a value, and no more
last_name : NameOn AnyParameters (61 ∷ 97 ∷ [])
last_name = record { behind = 97 ∷ []; is = refl; rest = inl last_word }

pub leads_on : (place : MediaPlace) → Begins (rest_of place) []
leads_on TopStart =
    (97 ∷ 47 ∷ 97 ∷ [], (media (97 ∷ 47 ∷ 97 ∷ [])).0 (refl, record { behind = 97 ∷ []; is = refl; rest = last_word }))
leads_on Top = (47 ∷ 97 ∷ [], record { behind = 97 ∷ []; is = refl; rest = last_word })
leads_on SubStart = (97 ∷ [], last_word)
leads_on LastWord = ([], ([], refl))
leads_on Blank = (59 ∷ 97 ∷ 61 ∷ 97 ∷ [], record { behind = 97 ∷ 61 ∷ 97 ∷ []; is = refl; rest = (refl, last_name) })
leads_on Semicolon = (97 ∷ 61 ∷ 97 ∷ [], (refl, last_name))
leads_on Name = (61 ∷ 97 ∷ [], last_name)
leads_on ValueStart = (97 ∷ [], inl last_word)
leads_on Quoted = (34 ∷ [], ([], refl, ([], refl)))
leads_on Escaped = (97 ∷ 34 ∷ [], ([], refl, ([], refl)))
leads_on Closed = ([], ([], refl))
