-- What a table of names and texts sets.
use Rattle.std.specs.Prelude.{◌≡◌, ℕ, Bool, true, not, ◌==◌, ◌&&◌, ◌||◌, List, [], ◌∷◌, Option, Some, None, map, drop, find, fold, unwrap_or, is_some, nat_eq, nat_le, if◌then◌else◌, option_and_then, codes}
use Rattle.std.specs.Option.{option_map_or}
use Rattle.std.specs.List.{list_all, starts_with}
use Rattle.std.specs.Str.{bytes_eq}
use Rattle.std.specs.Char.{to_ascii_lowercase}
use Rattle.std.specs.Ordering.{nat_cmp}
use Rattle.std.specs.Cmp.Lexicographic.{slice_cmp}
use Rattle.std.specs.BTreeMap.{insert_entry}
use Rattle.rkt_grammar.specs.Bytes.{space, delete}
use Rattle.rkt_grammar.specs.Grammar.{is_token_byte}
use Rattle.rkt_data.specs.declared.data_stream.ByteUnit.{ByteUnit}
use Rattle.rkt_config.specs.declared.config.Config.{Config}
use Rattle.rkt_config.specs.ConfigTable.{text_of}
use Rattle.rkt_config.specs.Limits.{default_limits}
use Rattle.rkt_config.specs.Numbers.{number_below, number_without_zeros}

-- neither a control character of ASCII nor its last code
abbrev pub is_ident_byte : ℕ → Bool
is_ident_byte b = nat_le space b && not (b == delete)

-- a number of turns is not 0
abbrev pub turns_of : List ℕ → Option ℕ
turns_of text = option_and_then (λ n. if n == 0 then None else Some n) (number_without_zeros text)

-- the name whose limit a name sets: what follows `limits.`
abbrev pub limit_name_of : List ℕ → Option (List ℕ)
limit_name_of name = if starts_with nat_eq name (codes "limits.") then Some (drop 7 name) else None

-- whether a text is in the grammar of what a name sets; the text of any other name is let be
abbrev pub fits : List ℕ → List ℕ → Bool
fits name text =
    if bytes_eq name (codes "ident") then list_all is_ident_byte text else (
    if bytes_eq name (codes "ip_header") then list_all is_token_byte text else (
    if bytes_eq name (codes "grace") || bytes_eq name (codes "mercy") then is_some (number_without_zeros text) else (
    if bytes_eq name (codes "turns") then is_some (turns_of text) else (
    if is_some (limit_name_of name) then is_some (number_below 64 text) else true))))

-- the first entry whose text leaves its grammar
abbrev pub first_bad : List (List ℕ × List ℕ) → Option (List ℕ × List ℕ)
first_bad table = find (λ entry. not (fits entry.0 entry.1)) table

-- the limits with that of an entry, where it sets one
abbrev pub with_entry : List (List ℕ × ByteUnit) → List ℕ × List ℕ → List (List ℕ × ByteUnit)
with_entry limits entry =
    option_map_or (λ name.
    option_map_or (λ bytes. insert_entry (slice_cmp nat_cmp) limits (map to_ascii_lowercase name) (record { 0 = bytes }))
    (number_below 64 entry.1) limits) (limit_name_of entry.0) limits

-- the default limits, and over them those of the table, a later one over an earlier
abbrev pub limits_in : List (List ℕ × List ℕ) → List (List ℕ × ByteUnit)
limits_in table = fold with_entry default_limits table

-- a text, or none where it is empty
abbrev pub unless_empty : List ℕ → Option (List ℕ)
unless_empty [] = None
unless_empty (b ∷ bs) = Some (b ∷ bs)

-- the configuration that a table's texts give
pub record IsConfig (table : List (List ℕ × List ℕ)) (config : Config) : Type 0 where
  pub ident : config.ident ≡ unwrap_or (text_of (codes "ident") table) (codes "Rocket")
  pub ip_header : config.ip_header ≡ unless_empty (unwrap_or (text_of (codes "ip_header") table) (codes "X-Real-IP"))
  pub limits : config.limits ≡ limits_in table
  pub grace : config.grace ≡ unwrap_or (option_and_then number_without_zeros (text_of (codes "grace") table)) 2
  pub mercy : config.mercy ≡ unwrap_or (option_and_then number_without_zeros (text_of (codes "mercy") table)) 3
  pub turns : config.turns ≡ unwrap_or (option_and_then turns_of (text_of (codes "turns") table)) 1048576
