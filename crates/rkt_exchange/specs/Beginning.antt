-- What an exchange begins with, and what it ends with.
use Rattle.std.specs.Prelude.{ℕ, List, []}
use Rattle.rkt_cookie.specs.Jar.{JarParts}
use Rattle.rkt_message.specs.Response.{ResponseOf}
use Rattle.rkt_request.specs.Lent.{Kept}
use Rattle.rkt_request.specs.Seen.{Seen}
use Rattle.rkt_request.specs.declared.bad.Bad.{Bad}
use Rattle.rkt_routing.specs.Beginning.{Beginning}
use Rattle.rkt_turn.specs.Shutdown.{Handle}

-- a request that came in, with nothing cached
abbrev pub beginning : {V B C : Type 0} → Seen V → JarParts → List Bad → B → Handle → Beginning V B C
beginning request jar faults body shutdown = record {
  at = record { request = request; body = body; kept = record { jar = jar; cache = []; shutdown = shutdown } };
  faults = faults;
}

-- what callbacks changed, the moment of which cookies were sent, and the response. C is the type of cached values, S that of
-- streams
pub record Over (C S : Type 0) : Type 0 where
  pub kept : Kept C
  pub moment : ℕ
  pub response : ResponseOf S
