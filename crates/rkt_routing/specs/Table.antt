-- What a request is routed by, as contracts see it.
use Rattle.std.specs.Prelude.{ℕ}
use Rattle.rkt_router.specs.Router.{SeenRouter}

-- H is the type of handlers, K that of catchers' handlers, N that of what sentries ask
pub record SeenTable (H K N : Type 0) : Type 0 where
  pub router : SeenRouter H K N
  -- as often as a callback may be polled; none counts as one
  pub turns : ℕ
