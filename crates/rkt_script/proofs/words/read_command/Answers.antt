use Rattle.std.proofs.Common.{◌≡◌, ◌∷◌, ◌-◌, [], List, Result, Ok, Err, ℕ, codes, drop, length, map, string_bytes, take}
use Rattle.std.specs.Prelude.{IfOk}
use Rattle.std.proofs.lemmas.Bool.Decides.{Decides-eqb}
use Rattle.std.proofs.lemmas.Slice.Eq.{slice_eq-Decides}
use Rattle.rkt_script.proofs.WordLemmas.{first_word}
use Rattle.rkt_script.specs.Words.{Commands, Settings, Table}
use Rattle.rkt_script.proofs.words.read_command.Goals as goal

-- what words behind `serve` set, a command sets
commands : {E : Type 0} (words : List (List ℕ)) (word : List ℕ) (rest : List (List ℕ)) (made : Result Table E) → words ≡ word ∷ rest → word ≡ codes "serve" → IfOk made (λ table. Settings rest [] table) → IfOk made (Commands words)
commands words word rest (Ok table) are is settings = rw are (is, settings)
commands words word rest (Err error) are is settings = tt

pub returns-in-len1-up-clause-read : goal.returns-in-len1-up-clause-read
returns-in-len1-up-clause-read c =
    let decides = slice_eq-Decides Decides-eqb (string_bytes c.word-item.result) (codes "serve") c.eq.result (rw c.as_str.ensures.value at c.eq.ensures) in
    commands (map string_bytes c.args.words.now) (string_bytes c.word-item.result) (map string_bytes (take (length c.args.words.now - 1) (drop 1 c.args.words.now))) c.settings.result
    (first_word string_bytes c.args.words.now c.word-item.result c.in-len1-up.len_at_least c.word-item.is) (decides.0 c.if-eq.true) c.settings.ensures.read
