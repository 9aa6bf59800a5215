-- Pieces that are never put together, against the text that they would make.
use Rattle.std.proofs.Common.{◌≡◌, ℕ, List, [], ◌∷◌, ◌++◌, map, Global, ap}
use Rattle.std.specs.Prelude.{String, string_bytes, Option}
use Rattle.std.specs.Char.{to_ascii_lowercase}
use Rattle.std.specs.List.{join_with_byte}
use Rattle.std.proofs.lemmas.List.{append-nil}
use Rattle.rkt_data.specs.declared.data_stream.ByteUnit.{ByteUnit}
use Rattle.rkt_config.specs.Joined.{behind_slashes}
use Rattle.rkt_config.specs.Limits.{IsLimitOf}

joined : (piece : String Global) (pieces : List (String Global)) → string_bytes piece ++ behind_slashes pieces ≡ join_with_byte 47 (map string_bytes (piece ∷ pieces))
joined piece [] = append-nil (string_bytes piece)
joined piece (next ∷ pieces) = ap (λ rest. string_bytes piece ++ 47 ∷ rest) (joined next pieces)

-- what is found for the first piece and the others is found for their join
pub limit_of_join : (limits : List (List ℕ × ByteUnit)) (layers pieces : List (String Global)) (piece : String Global) (bytes : List ℕ) (found : Option ByteUnit) → layers ≡ piece ∷ pieces → bytes ≡ string_bytes piece → IsLimitOf limits (map to_ascii_lowercase (bytes ++ behind_slashes pieces)) found → IsLimitOf limits (map to_ascii_lowercase (join_with_byte 47 (map string_bytes layers))) found
limit_of_join limits layers pieces piece bytes found is same was =
    rw is (rw (same, joined piece pieces) at was)
