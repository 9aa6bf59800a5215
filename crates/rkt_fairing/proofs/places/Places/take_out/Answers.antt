use Rattle.rkt_fairing.proofs.places.Places.take_out.Goals as goal

pub returns-clause-room : goal.returns-clause-room
returns-clause-room c = λ more room. record {
  ignite = c.take_out.ensures.room more room.ignite;
  liftoff = c.take_out-2.ensures.room more room.liftoff;
  request = c.take_out-3.ensures.room more room.request;
  response = c.take_out-4.ensures.room more room.response;
  shutdown = c.take_out-5.ensures.room more room.shutdown;
}
