-- What responders answer.
use Rattle.std.specs.Prelude.{◌≡◌, ℕ, ◌⊎◌, ◌||◌, ◌&&◌, ◌==◌, List, [], ◌∷◌, Option, Some, None, Result, Ok, Err, ⊤, codes, length, nat_le, if◌then◌else◌}
use Rattle.std.specs.Option.{option_map_or}
use Rattle.std.specs.Result.{result_map_both}
use Rattle.rkt_base.specs.declared.want.Want.{Want}
use Rattle.rkt_base.specs.declared.want.Want.TheVariants.{Refused, NoMemory}
use Rattle.rkt_http.specs.Headers.{replaced}
use Rattle.rkt_http.specs.declared.status.Status.{Status}
use Rattle.rkt_message.specs.Body.{body_of}
use Rattle.rkt_message.specs.Response.{ResponseOf, empty_response, with_body, with_headers}
use Rattle.rkt_message.specs.declared.content.Content.TheVariants as content

-- a response, or the status whose catcher is to answer
abbrev pub Answer : Type 0 → Type 0
Answer S = Result (ResponseOf S) Status

-- a fact of the answer, where memory did not run out
abbrev pub IfAnswered : {T E : Type 0} → Result T (Want E) → (Result T E → Type 0) → Type 0
IfAnswered (Ok x) P = P (Ok x)
IfAnswered (Err (Refused e)) P = P (Err e)
IfAnswered (Err NoMemory) P = ⊤

-- a fact of the case that it did
abbrev pub IfStarved : {T E : Type 0} → Result T (Want E) → Type 0 → Type 0
IfStarved (Ok x) P = ⊤
IfStarved (Err (Refused e)) P = ⊤
IfStarved (Err NoMemory) P = P

-- no response, but this status
abbrev pub refusal : {S : Type 0} → ℕ → Answer S
refusal code = Err (record { code = code })

-- nothing but a status
abbrev pub status_alone : {S : Type 0} → ℕ → ResponseOf S
status_alone code = record { status = Some code; headers = []; body = body_of content.None }

-- bytes of a content type
abbrev pub typed_bytes : {S : Type 0} → List ℕ → List ℕ → ResponseOf S
typed_bytes media bytes = record {
  status = None;
  headers = record { name = codes "Content-Type"; values = media ∷ [] } ∷ [];
  body = body_of (content.Sized bytes (Some (length bytes)));
}

abbrev pub with_status : {S : Type 0} → ℕ → ResponseOf S → ResponseOf S
with_status code response = record response { status = Some code }

-- with this value alone under a header's name
abbrev pub with_header : {S : Type 0} → List ℕ → List ℕ → ResponseOf S → ResponseOf S
with_header name value response = with_headers response (replaced response.headers (record { name = name; value = value }))

abbrev pub with_type : {S : Type 0} → List ℕ → ResponseOf S → ResponseOf S
with_type media response = with_header (codes "Content-Type") media response

-- what a status answers by itself: the response of 100 and of 200 to 205, a refusal as it is, and for any other one 500
abbrev pub answer_of_status : {S : Type 0} → ℕ → Answer S
answer_of_status code =
    if code == 100 || nat_le 200 code && nat_le code 205 then Ok (status_alone code)
    else if nat_le 400 code && nat_le code 599 then refusal code
    else refusal 500

module _ {S L : Type 0} where
  -- what f makes of the response of an inner responder, whose refusal stays
  abbrev pub Changes : (ResponseOf S → ResponseOf S) → (Answer S → L → Type 0) → Answer S → L → Type 0
  Changes f Inner answer after = (inner : Answer S) × Inner inner after × (answer ≡ result_map_both f (λ status. status) inner)

  -- memory ran out in the inner responder, or after it gave a response
  abbrev pub StarvesWithin : (Answer S → L → Type 0) → (L → Type 0) → L → Type 0
  StarvesWithin Inner Starves after = Starves after ⊎ ((response : ResponseOf S) × Inner (Ok response) after)

-- a body that a source gives, and nothing else
abbrev pub streamed : {S : Type 0} → S → ResponseOf S
streamed stream = with_body empty_response (body_of (content.Streamed stream))

-- the place of what was created, and what responds beside it
pub record Creation (R : Type 0) : Type 0 where
  pub location : List ℕ
  pub responder : Option R

-- what was created is there
abbrev pub created_at : {S : Type 0} → List ℕ → ResponseOf S → ResponseOf S
created_at location response = with_header (codes "Location") location (with_status 201 response)

-- a status, and where a client is sent, unless that was no reference
pub record Redirection : Type 0 where
  pub code : ℕ
  pub uri : Option (List ℕ)

abbrev pub answer_of_redirect : {S : Type 0} → Redirection → Answer S
answer_of_redirect redirect =
    option_map_or (λ uri. Ok (with_header (codes "Location") uri (status_alone redirect.code))) redirect.uri (refusal 500)
