-- The pieces that a response is sent as.
use Rattle.std.specs.List.{AllByRecursion, concat, list_all}
use Rattle.std.specs.Option.{ForSome}
use Rattle.std.specs.Prelude.{◌≡◌, ⊤, ◌<◌, ◌≤◌, ◌++◌, ℕ, List, [], ◌∷◌, Bool, true, ◌==◌, ◌&&◌, nat_le, not, Option, None, Some, length, map, take, codes, is_some, unwrap_or, if◌then◌else◌}
use Rattle.rkt_source.specs.Source.{Meaning}
use Rattle.rkt_http.specs.Headers.{Field, Group, group_of, fields_of}
use Rattle.rkt_grammar.specs.Grammar.{is_token_byte, is_field_value_byte}
use Rattle.rkt_message.specs.Body.{BodyOf, left_of, size_of}
use Rattle.rkt_message.specs.Lines.{Line, lines_of, with_length, without_length}
use Rattle.rkt_message.specs.Response.{ResponseOf}
use Rattle.rkt_message.specs.declared.content.Content.{Content}
use Rattle.rkt_message.specs.declared.content.Content.TheVariants as content
use Rattle.rkt_message.specs.declared.piece.Piece.{Piece}
use Rattle.rkt_message.specs.declared.piece.Piece.TheVariants.{Head, Chunk, End}

-- one or more characters of a token (RFC 9110, section 5.6.2)
abbrev pub is_token : List ℕ → Bool
is_token text = not (length text == 0) && list_all is_token_byte text

-- a header that can be sent
abbrev pub is_sendable : Field → Bool
is_sendable field = is_token field.name && list_all is_field_value_byte field.value

abbrev pub status_of : {S : Type 0} → ResponseOf S → ℕ
status_of response = unwrap_or response.status 200

-- whether a head can be formed: the status has three digits, and each header can be sent
abbrev pub has_head : {S : Type 0} → ResponseOf S → Bool
has_head response =
    (nat_le 100 (status_of response) && nat_le (status_of response) 999) && list_all is_sendable (fields_of response.headers)

-- with the size of a body that has one, and else as they stand
abbrev pub with_size : Option ℕ → List Line → List Line
with_size None lines = lines
with_size (Some size) lines = with_length size lines

-- Content-Length tells the size of the body, but never beside a Transfer-Encoding (RFC 9112, section 6.2)
abbrev pub sent_headers : List Group → Option ℕ → List Line
sent_headers groups size =
    if is_some (group_of groups (codes "Transfer-Encoding"))
    then without_length (lines_of groups)
    else with_size size (lines_of groups)

abbrev pub head_of : {S : Type 0} → ResponseOf S → Piece
head_of response = Head (status_of response) (sent_headers response.headers (size_of response.body.content))

-- what one chunk may hold
pub record IsChunk (most : ℕ) (bytes : List ℕ) : Type 0 where
  pub some : 0 < length bytes
  pub small : length bytes ≤ most

-- of a body of bytes a chunk takes as many as it may hold
abbrev pub IsFull : {S : Type 0} → Content S → ℕ → List ℕ → Type 0
IsFull (content.Sized rest size) most bytes = bytes ≡ take most rest
IsFull _ most bytes = ⊤

-- the chunks of a body, cut in some way, and the end; they hold all that is left of it, where that is told
abbrev pub SentBody : {S : Type 0} → (S → Meaning) → BodyOf S → List Piece → Type 0
SentBody meaning body pieces = (chunks : List (List ℕ)) × AllByRecursion (IsChunk body.chunk) chunks
    × ForSome (left_of meaning body.content) (λ left. concat chunks ≡ left)
    × (pieces ≡ map Chunk chunks ++ End ∷ [])

-- the head, where one can be formed, and then the body
abbrev pub Sent : {S : Type 0} → (S → Meaning) → ResponseOf S → List Piece → Type 0
Sent meaning response pieces =
    (body : List Piece) × (has_head response ≡ true) × SentBody meaning response.body body × (pieces ≡ head_of response ∷ body)
