-- When two permissions are the same: each says of every feature that the other names what the other says, in any order.
use Rattle.std.specs.Prelude.{ℕ, List, Bool, true, false, ◌&&◌, Option, Some, None, nat_eq}
use Rattle.std.specs.List.{list_all}
use Rattle.std.specs.Map.{lookup}
use Rattle.std.specs.Option.{option_eq}
use Rattle.std.specs.Cmp.Lexicographic.{pointwise}
use Rattle.rkt_shield.specs.Allow.{is_any}
use Rattle.rkt_shield.specs.Permission.{Rule}
use Rattle.rkt_shield.specs.declared.allow.Allow.{Allow}
use Rattle.rkt_shield.specs.declared.allow.Allow.TheVariants.{Any, This, Origin}
use Rattle.rkt_shield.specs.declared.feature.Feature.{Feature}

abbrev pub is_this : Allow → Bool
is_this Any = false
is_this This = true
is_this (Origin uri) = false

-- it is an origin, whose URI has this text
abbrev pub is_origin : List ℕ → Allow → Bool
is_origin text Any = false
is_origin text This = false
is_origin text (Origin uri) = pointwise nat_eq text uri

-- origins are the same where the texts of their URIs are
abbrev pub same_allow : Allow → Allow → Bool
same_allow Any other = is_any other
same_allow This other = is_this other
same_allow (Origin uri) other = is_origin uri other

abbrev pub same_list : Option (List Allow) → Option (List Allow) → Bool
same_list = option_eq (pointwise same_allow)

-- something is said, and it is this
abbrev pub said_same : Option (Option (List Allow)) → Option (List Allow) → Bool
said_same None list = false
said_same (Some said) list = same_list said list

-- the rules say this of the feature
abbrev pub says : (Feature → Feature → Bool) → List Rule → Rule → Bool
says same rules rule = said_same (lookup (same rule.0) rules) rule.1

abbrev pub says_all : (Feature → Feature → Bool) → List Rule → List Rule → Bool
says_all same rules others = list_all (says same rules) others

abbrev pub same_rules : (Feature → Feature → Bool) → List Rule → List Rule → Bool
same_rules same one other = says_all same one other && says_all same other one
