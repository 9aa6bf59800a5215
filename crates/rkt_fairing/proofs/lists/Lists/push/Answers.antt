use Rattle.std.proofs.Common.{arith}
use Rattle.rkt_fairing.proofs.lists.Lists.push.Goals as goal

pub returns-clause-room : goal.returns-clause-room
returns-clause-room g c = λ more room. record {
  slots = omega (arith, room.slots, c.push_reserved.ensures.len, c.push_reserved.ensures.capacity);
  told = omega (arith, room.told, c.push_reserved-2.ensures.len, c.push_reserved-2.ensures.capacity);
  places = c.join.ensures.room more room.places;
  failures = omega (arith, room.failures);
}
