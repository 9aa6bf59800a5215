use Rattle.rkt_fairing.proofs.places.Places.join.Goals as goal

pub returns-clause-room : goal.returns-clause-room
returns-clause-room c = λ more room. record {
  ignite = c.join_if.ensures.room more room.ignite;
  liftoff = c.join_if-2.ensures.room more room.liftoff;
  request = c.join_if-3.ensures.room more room.request;
  response = c.join_if-4.ensures.room more room.response;
  shutdown = c.join_if-5.ensures.room more room.shutdown;
}
