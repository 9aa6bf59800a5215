-- How a handle of a wire comes back that was lent.
use Rattle.std.specs.Prelude.{◌≡◌, ◌<◌, ◌≤◌}
use Rattle.rkt_turn.specs.Shutdown.{Handle}

-- a handle of the same wire, which has looked no less; a word that was seen stays seen
pub record HandsBack (old new : Handle) : Type 0 where
  pub wire : new.wire ≡ old.wire
  pub looked : old.looked ≤ new.looked
  pub seen : 0 < old.seen → new.seen ≡ old.seen
