-- What is routed.
use Rattle.std.specs.Prelude.{List}
use Rattle.rkt_router.specs.Callbacks.{RequestAt}
use Rattle.rkt_request.specs.declared.bad.Bad.{Bad}

-- a request with its body and what callbacks may change, and what is wrong with it; V is the type of managed values, B that of
-- bodies, C that of cached values
pub record Beginning (V B C : Type 0) : Type 0 where
  pub at : RequestAt V B C
  pub faults : List Bad
