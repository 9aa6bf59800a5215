-- What routing ends with.
use Rattle.rkt_message.specs.Response.{ResponseOf}
use Rattle.rkt_request.specs.Lent.{Kept}
use Rattle.rkt_request.specs.Seen.{Seen}

-- a response, the request that it answers, and what callbacks changed; V is the type of managed values, C that of cached
-- values, S that of streams
pub record Found (V C S : Type 0) : Type 0 where
  pub response : ResponseOf S
  pub request : Seen V
  pub kept : Kept C
