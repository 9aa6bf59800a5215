-- The grammar of a media type (RFC 9110, 8.3.1), of tokens (5.6.2), quoted strings (5.6.4) and parameters (5.6.6). It is
-- stricter than 5.6.6 in one thing: behind each semicolon stands a parameter.
use Rattle.std.specs.Prelude.{ℕ, ◌≡◌, ◌≢◌, ◌⊎◌, ⊤, List, [], ◌∷◌, ◌++◌, Bool, true, false, ◌==◌, ◌||◌, ◌&&◌, not, Option, Some, None, if◌then◌else◌}
use Rattle.rkt_grammar.specs.Bytes.{space, tab, quotation_mark, backslash, equals_sign, semicolon, slash}
use Rattle.rkt_grammar.specs.Grammar.{is_token_byte, is_field_value_byte}
use Rattle.rkt_media.specs.Runs.{run, behind_run, Starts}
use Rattle.rkt_media.specs.Media.{Media, Parameter}

-- a space or a tab
abbrev pub is_blank : ℕ → Bool
is_blank b = b == space || b == tab

-- what stands for itself between quotation marks
abbrev pub is_quoted_byte : ℕ → Bool
is_quoted_byte b = is_field_value_byte b && not (b == quotation_mark) && not (b == backslash)

-- what follows the closing quotation mark, if a quoted string goes on so; behind a backslash, or not
abbrev pub behind_quoted : Bool → List ℕ → Option (List ℕ)
behind_quoted escaped [] = None
behind_quoted true (b ∷ bs) = if is_field_value_byte b then behind_quoted false bs else None
behind_quoted false (b ∷ bs) =
    if b == quotation_mark
    then Some bs
    else (if b == backslash then behind_quoted true bs else (if is_quoted_byte b then behind_quoted false bs else None))

-- whether the next byte of a quoted string stands behind a backslash; nothing at the closing mark
abbrev pub quote_step : Bool → ℕ → Option Bool
quote_step true b = Some false
quote_step false b = if b == quotation_mark then None else Some (b == backslash)

-- a token, and then the rest
pub record TokenThen (text token : List ℕ) (Rest : List ℕ → Type 0) : Type 0 where
  pub starts : Starts is_token_byte text
  pub is : token ≡ run is_token_byte text
  pub rest : Rest (behind_run is_token_byte text)

-- a quoted string, and then the rest
pub record QuotedThen (text quoted : List ℕ) (Rest : List ℕ → Type 0) : Type 0 where
  pub inside : List ℕ
  pub opened : text ≡ quotation_mark ∷ inside
  pub more : List ℕ
  pub closed : behind_quoted false inside ≡ Some more
  pub is : text ≡ quoted ++ more
  pub rest : Rest more

-- the byte, and then the rest
pub record ByteThen (b : ℕ) (text : List ℕ) (Rest : List ℕ → Type 0) : Type 0 where
  pub behind : List ℕ
  pub is : text ≡ b ∷ behind
  pub rest : Rest behind

-- a value, as a token or as a quoted string, and then the rest
abbrev pub ValueThen : List ℕ → List ℕ → (List ℕ → Type 0) → Type 0
ValueThen text value Rest = TokenThen text value Rest ⊎ QuotedThen text value Rest

-- a name, an equals sign and a value, and then the rest
abbrev pub ParameterThen : List ℕ → Parameter → (List ℕ → Type 0) → Type 0
ParameterThen text p Rest = TokenThen text p.0 (λ text. ByteThen equals_sign text (λ text. ValueThen text p.1 Rest))

-- a semicolon with blanks around it, a parameter, and then the rest
abbrev pub SemicolonThen : List ℕ → Parameter → (List ℕ → Type 0) → Type 0
SemicolonThen text p Rest =
    ByteThen semicolon (behind_run is_blank text) (λ text. ParameterThen (behind_run is_blank text) p Rest)

-- these parameters, and then the rest
abbrev pub ParametersThen : List Parameter → (List ℕ → Type 0) → List ℕ → Type 0
ParametersThen [] Rest text = Rest text
ParametersThen (p ∷ ps) Rest text = SemicolonThen text p (ParametersThen ps Rest)

-- this media type, and then the rest
abbrev pub MediaThen : List ℕ → Media → (List ℕ → Type 0) → Type 0
MediaThen text m Rest =
    TokenThen text m.top (λ text. ByteThen slash text (λ text. TokenThen text m.sub (ParametersThen m.parameters Rest)))

-- behind blanks no semicolon comes
abbrev pub NoSemicolon : List ℕ → Type 0
NoSemicolon text = (more : List ℕ) → behind_run is_blank text ≢ semicolon ∷ more

-- just this
abbrev pub Exactly : List ℕ → List ℕ → Type 0
Exactly more text = text ≡ more

-- the text spells this media type
abbrev pub SpellsMedia : List ℕ → Media → Type 0
SpellsMedia text m = MediaThen text m (Exactly [])

abbrev pub IsMedia : List ℕ → Type 0
IsMedia text = (m : Media) × SpellsMedia text m

-- each of these parameters is spelled by its name and its value as they stand
abbrev pub AreSpelled : List Parameter → Type 0
AreSpelled [] = ⊤
AreSpelled (p ∷ ps) = (TokenThen p.0 p.0 (Exactly []) × ValueThen p.1 p.1 (Exactly [])) × AreSpelled ps

-- the parts of a media type are spelled as they stand
pub record IsSpelled (m : Media) : Type 0 where
  pub top : TokenThen m.top m.top (Exactly [])
  pub sub : TokenThen m.sub m.sub (Exactly [])
  pub parameters : AreSpelled m.parameters

-- a text spells one media type at most
abbrev pub SpellsOneMedia : Type 0
SpellsOneMedia = (text : List ℕ) (a b : Media) → SpellsMedia text a → SpellsMedia text b → a ≡ b
