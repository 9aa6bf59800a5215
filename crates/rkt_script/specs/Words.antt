-- The words of a command line, and what the program answers.
use Rattle.std.specs.Prelude.{◌≡◌, ◌⊎◌, ◌==◌, ◌&&◌, ℕ, List, [], ◌∷◌, Bool, IsTrue, codes, length, not}
use Rattle.std.specs.List.{after_first, before_first, list_any}
use Rattle.std.specs.Str.{bytes_eq}
use Rattle.indexmap.specs.IndexMap.{insert_entry}

-- names with their texts, in the order in which the names were first set
abbrev pub Table : Type 0
Table = List (List ℕ × List ℕ)

abbrev pub is_equals : ℕ → Bool
is_equals b = b == 61

-- a setting is cut at its first equals sign: a name stands before it, and a text behind it
abbrev pub is_setting : List ℕ → Bool
is_setting word = list_any is_equals word && not (length (before_first is_equals word) == 0)

-- a table with a setting; a later one of a name replaces the earlier
abbrev pub with_setting : Table → List ℕ → Table
with_setting table word = insert_entry bytes_eq table (before_first is_equals word) (after_first is_equals word)

-- the words lead from one table to another: each setting stands behind the word `--config`
abbrev pub Settings : List (List ℕ) → Table → Table → Type 0
Settings [] before after = after ≡ before
Settings (flag ∷ []) before after = ⊥
Settings (flag ∷ word ∷ words) before after =
    (flag ≡ codes "--config") × IsTrue (is_setting word) × Settings words (with_setting before word) after

-- the word `serve`, and settings that give this table
abbrev pub Commands : List (List ℕ) → Table → Type 0
Commands [] table = ⊥
Commands (word ∷ words) table = (word ≡ codes "serve") × Settings words [] table

-- the words are a command
abbrev pub IsCommand : List (List ℕ) → Type 0
IsCommand words = (table : Table) × Commands words table

-- one command sets one table
abbrev pub SetsOnce : Type 0
SetsOnce = (words : List (List ℕ)) (table table' : Table) → Commands words table → Commands words table' → table' ≡ table

-- an exit status of the program
abbrev pub IsStatus : ℕ → Type 0
IsStatus n = (n ≡ 0) ⊎ (n ≡ 1) ⊎ (n ≡ 2) ⊎ (n ≡ 3) ⊎ (n ≡ 4) ⊎ (n ≡ 5) ⊎ (n ≡ 6)
