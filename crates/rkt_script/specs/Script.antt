-- Scripts: the requests that the program is asked to serve, a line each.
use Rattle.std.specs.Prelude.{◌≡◌, ◌≤◌, ◌⊎◌, ℕ, ◌+◌, ◌-◌, ◌==◌, ◌&&◌, List, [], ◌∷◌, ◌++◌, Bool, true, IsTrue, if◌then◌else◌, codes, length, take, slice_index, nat_le, not, None}
use Rattle.std.specs.List.{onto_first, list_all, before_first}
use Rattle.std.specs.Str.{bytes_eq}
use Rattle.rkt_grammar.specs.Grammar.{is_token_byte}
use Rattle.rkt_script.specs.declared.script.ScriptRequest.{ScriptRequest}
use Rattle.rkt_script.specs.declared.script.TheConstants.{SCRIPT_LIMIT}

-- the lines of a script, each with the line feed at its end; a last one may have none
abbrev pub lines_of : List ℕ → List (List ℕ)
lines_of [] = []
lines_of (b ∷ bs) = if b == 10 then (b ∷ []) ∷ lines_of bs else onto_first b (lines_of bs)

abbrev pub ends_in : ℕ → List ℕ → Bool
ends_in b line = slice_index line (length line - 1) == b

abbrev pub without_last : List ℕ → List ℕ
without_last line = take (length line - 1) line

-- a line without its line feed, and without a carriage return before that
abbrev pub content_of : List ℕ → List ℕ
content_of line = if ends_in 10 line
    then (if ends_in 13 (without_last line) then without_last (without_last line) else without_last line)
    else line

-- a line that is skipped: an empty one, or one that begins with a number sign
abbrev pub is_skipped : List ℕ → Bool
is_skipped [] = true
is_skipped (b ∷ bs) = b == 35

abbrev pub is_capital : ℕ → Bool
is_capital b = nat_le 65 b && nat_le b 90

-- a character of ASCII that is neither white space nor control
abbrev pub is_visible : ℕ → Bool
is_visible b = nat_le 33 b && nat_le b 126

-- one or more bytes that pass a test
abbrev pub is_word : (ℕ → Bool) → List ℕ → Bool
is_word test bytes = not (length bytes == 0) && list_all test bytes

-- a request: the word of its method, a space, and its target
pub record IsRequest (content method target : List ℕ) : Type 0 where
  pub spelled : content ≡ method ++ 32 ∷ target
  pub letters : IsTrue (is_word is_capital method)
  pub visible : IsTrue (is_word is_visible target)

-- a header of the last request: a colon and a space, a token, a colon and a space, and any bytes
pub record IsHeader (content name value : List ℕ) : Type 0 where
  pub spelled : content ≡ codes ": " ++ (name ++ (codes ": " ++ value))
  pub token : IsTrue (is_word is_token_byte name)

-- a piece of the body of the last request: an equals sign and a space, and any bytes
abbrev pub IsPiece : List ℕ → List ℕ → Type 0
IsPiece content bytes = content ≡ codes "= " ++ bytes

-- a line behind which no request is offered
abbrev pub is_shutdown : List ℕ → Bool
is_shutdown content = bytes_eq content (codes "shutdown")

-- a request as it is asked first: with no header, and nothing in its body
abbrev pub asking : List ℕ → List ℕ → ScriptRequest
asking method target =
    record { head = record { method = method; target = target; headers = []; remote = None }; body = [] }

-- a request with one more header, and with more bytes at the end of its body
abbrev pub with_header : List ℕ → List ℕ → ScriptRequest → ScriptRequest
with_header name value request =
    record request { head = record request.head { headers = request.head.headers ++ (name, value) ∷ [] } }

abbrev pub with_piece : List ℕ → ScriptRequest → ScriptRequest
with_piece bytes request = record request { body = request.body ++ bytes }

-- What a line of the grammar makes of the requests before it: it is skipped, or it asks one more, or it adds to the last one,
-- or it leaves none for the lines behind it to add to.
pub data Adds : List ScriptRequest → List ℕ → List ScriptRequest → Type 0 where
  skipped : {requests : List ScriptRequest} {content : List ℕ}
      → IsTrue (is_skipped content) → Adds requests content requests
  request : {requests : List ScriptRequest} {content : List ℕ} (method target : List ℕ)
      → IsRequest content method target → Adds requests content (requests ++ asking method target ∷ [])
  header : {content : List ℕ} (before : List ScriptRequest) (last : ScriptRequest) (name value : List ℕ)
      → IsHeader content name value → Adds (before ++ last ∷ []) content (before ++ with_header name value last ∷ [])
  piece : {content : List ℕ} (before : List ScriptRequest) (last : ScriptRequest) (bytes : List ℕ)
      → IsPiece content bytes → Adds (before ++ last ∷ []) content (before ++ with_piece bytes last ∷ [])
  shutdown : {requests : List ScriptRequest} {content : List ℕ}
      → IsTrue (is_shutdown content) → Adds requests content []

-- the same of a line with its end, where this many bytes of the script may still come
abbrev pub AddsWithin : ℕ → List ScriptRequest → List ℕ → List ScriptRequest → Type 0
AddsWithin room before line after = (length line ≤ room) × Adds before (content_of line) after

-- lines of the grammar lead from some requests to others
abbrev pub Lead : ℕ → List ScriptRequest → List (List ℕ) → List ScriptRequest → Type 0
Lead room before [] after = after ≡ before
Lead room before (line ∷ lines) after =
    (next : List ScriptRequest) × AddsWithin room before line next × Lead (room - length line) next lines after

-- every line is of the grammar
abbrev pub AreGood : ℕ → List ScriptRequest → List (List ℕ) → Type 0
AreGood room before lines = (after : List ScriptRequest) × Lead room before lines after

-- the line with this number is the first that is not, where the first line has the number `from`
abbrev pub IsFirstBad : ℕ → ℕ → List ScriptRequest → List (List ℕ) → ℕ → Type 0
IsFirstBad from room before [] number = ⊥
IsFirstBad from room before (line ∷ lines) number =
    ((number ≡ from) × ((next : List ScriptRequest) → ¬ AddsWithin room before line next))
    ⊎ ((next : List ScriptRequest) × AddsWithin room before line next
    × IsFirstBad (from + 1) (room - length line) next lines number)

-- the lines before the first `shutdown`
abbrev pub offering : List (List ℕ) → List (List ℕ)
offering lines = before_first (λ line. is_shutdown (content_of line)) lines

-- a script offers these requests, in order: those to which its lines before the first `shutdown` lead
abbrev pub Offers : List ℕ → List ScriptRequest → Type 0
Offers script requests = Lead SCRIPT_LIMIT [] (offering (lines_of script)) requests

-- one script offers one list of requests
abbrev pub OffersOnce : Type 0
OffersOnce = (script : List ℕ) (requests requests' : List ScriptRequest)
    → Offers script requests → Offers script requests' → requests' ≡ requests
