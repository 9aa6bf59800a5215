use Rattle.std.proofs.Common.{◌≤◌, length, arith}
use Rattle.rkt_data.proofs.Pulls.{Gave-more, same_front}
use Rattle.rkt_data.proofs.counted_source.top_up.Goals as goal

pub returns-clause-topped_up : goal.returns-clause-topped_up
returns-clause-topped_up g c =
    let h : c.args.held ≤ length c.args.bytes.now = omega arith in
    record {
      kept = c.pull-n.ensures.pulled.kept;
      gave = Gave-more c.args.held c.pull-n.result.0 c.args.bytes.now c.pull-n.new.room _ c.requires.gave c.pull-n.ensures.pulled h;
      more = omega arith;
      within = omega (arith, c.pull-n.ensures.pulled.within, c.pull-n.auto.room);
      front = same_front c.args.held c.args.bytes.now c.pull-n.new.room _ h;
    }
