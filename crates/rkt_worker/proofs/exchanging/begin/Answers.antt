use Rattle.std.proofs.Common.{rules}
use Rattle.rkt_worker.proofs.exchanging.begin.Goals as goal

pub returns-clause-begun : goal.returns-clause-begun
returns-clause-begun g c = record {
  request = c.in-Ok.incoming.request;
  jar = c.in-Ok.incoming.jar;
  faults = c.in-Ok.incoming.faults;
  incoming = search rules;
  going = c.new-2.ensures.going;
  same = c.new-2.ensures.tables;
  stands = λ rule. rw (c.in-Ok-from_source.ensures, c.new.ensures) at (c.new-2.ensures.stands rule);
}
