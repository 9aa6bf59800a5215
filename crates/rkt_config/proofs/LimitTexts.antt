-- The text of limits, one limit after another.
use Rattle.std.proofs.Common.{◌≡◌, ℕ, List, [], ◌∷◌, ◌++◌, map, Global, flat_map, codes, refl, sym, ap, ◌∙◌, append_assoc}
use Rattle.std.specs.Prelude.{String, string_bytes}
use Rattle.std.proofs.lemmas.List.{append-nil}
use Rattle.rkt_data.specs.declared.data_stream.ByteUnit.{ByteUnit}
use Rattle.rkt_config.specs.Limits.{limit_text, limits_text}

-- an entry, with the bytes of its name
abbrev pub seen : String Global × ByteUnit → List ℕ × ByteUnit
seen entry = (string_bytes entry.0, entry.1)

-- what follows the first limit
abbrev pub others_text : List (String Global × ByteUnit) → List ℕ
others_text entries = flat_map (λ e. codes ", " ++ limit_text e) (map seen entries)

pub text_begins : (limits : List (List ℕ × ByteUnit)) (entries rest : List (String Global × ByteUnit)) (name : List ℕ) (key : String Global) (limit : ByteUnit)
    → limits ≡ map seen entries → entries ≡ (key, limit) ∷ rest → name ≡ string_bytes key → limit_text (name, limit) ++ others_text rest ≡ limits_text limits
text_begins limits entries rest name key limit is at same = rw (is, at, same) refl

pub text_goes_on : (whole done : List ℕ) (entries rest : List (String Global × ByteUnit)) (name : List ℕ) (key : String Global) (limit : ByteUnit)
    → done ++ others_text entries ≡ whole → entries ≡ (key, limit) ∷ rest → name ≡ string_bytes key → ((done ++ codes ", ") ++ limit_text (name, limit)) ++ others_text rest ≡ whole
text_goes_on whole done entries rest name key limit is at same =
    let one = limit_text (name, limit) in
    let others = others_text rest in
    append_assoc (done ++ codes ", ") one others
    ∙ append_assoc done (codes ", ") (one ++ others)
    ∙ ap (λ (l : List ℕ). done ++ l) (sym (append_assoc (codes ", ") one others))
    ∙ rw (← is, at, same) refl

pub text_ends : (whole done : List ℕ) (entries : List (String Global × ByteUnit)) → done ++ others_text entries ≡ whole → entries ≡ [] → done ≡ whole
text_ends whole done entries is at = rw (← is, at) (sym (append-nil done))
