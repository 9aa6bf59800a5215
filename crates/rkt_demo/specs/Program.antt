-- What the program writes, by the words and the script that it reads.
use Rattle.std.specs.Prelude.{◌≡◌, ◌⊎◌, ℕ, ◌+◌, ◌++◌, List, [], Option, Some, None, codes, drop}
use Rattle.std.specs.Fmt.{decimal}
use Rattle.std.specs.Option.{ForSome}
use Rattle.rkt_config.specs.Config.{first_bad}
use Rattle.rkt_source.specs.Source.{Meaning}
use Rattle.rkt_script.specs.declared.script.TheConstants.{SCRIPT_LIMIT}
use Rattle.rkt_script.specs.Script.{lines_of, AreGood, IsFirstBad}
use Rattle.rkt_demo.specs.Shown.{ShowsScript}
use Rattle.rkt_script.specs.Streams.{IsReadTo}
use Rattle.rkt_script.specs.Words.{Commands, Table}

-- a fact of what the words set, where they are a command
abbrev pub OfCommand : List (List ℕ) → (Table → Type 0) → Type 0
OfCommand words P = (table : Table) × Commands words table × P table

-- each setting takes its text
abbrev pub IsAccepted : Table → Type 0
IsAccepted table = first_bad table ≡ None

-- a fact of the script: of what the source has not given yet, where it tells that
abbrev pub OfScript : Meaning → (List ℕ → Type 0) → Type 0
OfScript source P = ForSome source.whole (λ whole. P (drop source.taken whole))

-- the source tells its content, and this is what it has not given yet
abbrev pub IsScript : Meaning → List ℕ → Type 0
IsScript source script = (whole : List ℕ) × (source.whole ≡ Some whole) × (script ≡ drop source.taken whole)

-- every line is of the grammar
abbrev pub IsGoodScript : List ℕ → Type 0
IsGoodScript script = AreGood SCRIPT_LIMIT [] (lines_of script)

-- the number, from 1 on, of the first line that is not
abbrev pub IsFirstBadLine : List ℕ → ℕ → Type 0
IsFirstBadLine script number = IsFirstBad 1 SCRIPT_LIMIT [] (lines_of script) number

-- the text that names a line
abbrev pub refusal : ℕ → List ℕ
refusal number = codes "script line " ++ decimal number ++ codes "\n"

-- the text that says that a setting does not take its text
abbrev pub config_refusal : List ℕ
config_refusal = codes "error 18 aborting due to invalid configuration\n"

-- What a script is answered with, by what the words set: the first line that is not of the grammar; or that a setting does not
-- take its text; or a text that shows as many of its requests as may be served.
abbrev pub IsText : Table → Option (ℕ × ℕ) → List ℕ → List ℕ → Type 0
IsText table window script text = ((number : ℕ) × IsFirstBadLine script number × (text ≡ refusal number))
    ⊎ (IsGoodScript script × ¬ IsAccepted table × (text ≡ config_refusal))
    ⊎ (IsGoodScript script × IsAccepted table × ShowsScript table window script text)

-- all of the source was read, or so many bytes that a line leaves the grammar
abbrev pub IsAllRead : Meaning → Meaning → Type 0
IsAllRead before after = IsReadTo (SCRIPT_LIMIT + 1) before after
