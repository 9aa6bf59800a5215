-- Whether the format of a request is what a route asks for.
use Rattle.std.proofs.Common.{◌≡◌, ◌↔◌, IsTrue, Bool, Option, Some, sym, subst}
use Rattle.rkt_media.specs.Media.{Media}
use Rattle.rkt_http.specs.Method.{carries_payload}
use Rattle.rkt_router.specs.Tries.{FormatFits, FormatMatches}
use Rattle.rkt_request.specs.Seen.{Seen, HasOneFormat, IsFormat}

-- a test of this one format decides whether a route's format is matched
pub format_decided : {V : Type 0} (request : Seen V) → HasOneFormat request → (asked : Media) (payload : Bool) (found : Option Media) (fits : Bool) → IsFormat request found → payload ≡ carries_payload request.method
    → IsTrue fits ↔ FormatFits asked payload found → IsTrue fits ↔ FormatMatches (Some asked) request
format_decided request one asked payload found fits is same law = (
  λ yes. (found, is, subst (λ (p : Bool). FormatFits asked p found) same (law.0 yes)),
  λ h. law.1 (subst (λ (p : Bool). FormatFits asked p found) (sym same)
      (subst (FormatFits asked (carries_payload request.method)) (one h.0 found h.1 is) h.2)),
)
