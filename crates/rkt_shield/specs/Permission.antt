-- Which features a site permits, and to whom.
use Rattle.std.specs.Prelude.{ℕ, List, [], ◌++◌, Bool, Option, Some, None, codes, ◌≡◌, if◌then◌else◌}
use Rattle.std.specs.List.{join_by}
use Rattle.std.specs.Map.{lookup}
use Rattle.std.specs.Option.{option_and_then}
use Rattle.indexmap.specs.IndexMap.{insert_entry}
use Rattle.rkt_shield.specs.Feature.{feature_text}
use Rattle.rkt_shield.specs.Allow.{allow_text}
use Rattle.rkt_shield.specs.declared.allow.Allow.{Allow}
use Rattle.rkt_shield.specs.declared.feature.Feature.{Feature}

-- a feature, and who may use it: these, or nobody
abbrev pub Rule : Type 0
Rule = Feature × Option (List Allow)

-- who may use the feature that passes the test, if these were listed
abbrev pub allowed_by : (Feature → Bool) → List Rule → Option (List Allow)
allowed_by test rules = option_and_then (λ allow. allow) (lookup test rules)

-- those who may use a feature, one behind the other
abbrev pub list_text : Option (List Allow) → List ℕ
list_text None = []
list_text (Some allow) = join_by allow_text (codes " ") allow

abbrev pub rule_text : Rule → List ℕ
rule_text rule = feature_text rule.0 ++ codes "=(" ++ list_text rule.1 ++ codes ")"

-- what the header `Permissions-Policy` says: each rule, in order
abbrev pub permission_text : List Rule → List ℕ
permission_text rules = join_by rule_text (codes ", ") rules

-- of the feature that something was said of last, that is said, and of each other what was said before
abbrev pub SaysWhatWasSaid : (Feature → Feature → Bool) → Type 0
SaysWhatWasSaid same =
    (rules : List Rule) (feature other : Feature) (list : Option (List Allow))
    → allowed_by (same other) (insert_entry same rules feature list)
    ≡ (if same other feature then list else allowed_by (same other) rules)
