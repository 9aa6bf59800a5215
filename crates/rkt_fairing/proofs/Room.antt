-- Room for some is room for fewer.
use Rattle.std.proofs.Common.{◌≤◌, ℕ, arith}
use Rattle.rkt_fairing.specs.Fairings.{HasRoom}
use Rattle.rkt_fairing.specs.Places.{HaveRoom}
use Rattle.rkt_fairing.specs.declared.lists.Lists.{Lists}
use Rattle.rkt_fairing.specs.declared.places.Places.{Places}

fewer_places : (places : Places) (more fewer : ℕ) → fewer ≤ more → HaveRoom places more → HaveRoom places fewer
fewer_places places more fewer le room = record {
  ignite = omega (arith, room.ignite);
  liftoff = omega (arith, room.liftoff);
  request = omega (arith, room.request);
  response = omega (arith, room.response);
  shutdown = omega (arith, room.shutdown);
}

pub fewer_room : {F : Type 0} (lists : Lists F) (more fewer : ℕ) → fewer ≤ more → HasRoom lists more → HasRoom lists fewer
fewer_room lists more fewer le room = record {
  slots = omega (arith, room.slots);
  told = omega (arith, room.told);
  places = fewer_places lists.places more fewer le room.places;
  failures = omega (arith, room.failures);
}
