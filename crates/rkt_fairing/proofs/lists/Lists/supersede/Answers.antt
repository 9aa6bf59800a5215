use Rattle.rkt_fairing.proofs.lists.Lists.supersede.Goals as goal

pub returns-clause-room : goal.returns-clause-room
returns-clause-room g c = λ more room. record {
  slots = room.slots;
  told = room.told;
  places = c.take_out.ensures.room more room.places;
  failures = room.failures;
}
