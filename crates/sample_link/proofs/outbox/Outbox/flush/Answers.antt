use Rattle.std.proofs.Common.{[], ◌∙◌, Ok, refl}
use Rattle.rkt_base.specs.declared.poll.Poll.TheVariants.{Ready}
use Rattle.rkt_source.specs.Sink.{Feeds}
use Rattle.rkt_data.proofs.Sends.{SinkKeeps-refl, SinkKeeps-trans}
use Rattle.sample_link.proofs.Feedings.{FeedsFront-after}
use Rattle.sample_link.proofs.outbox.Outbox.flush.Goals as goal

pub loop-self-init : goal.loop-self-init
loop-self-init g c = record { kept = SinkKeeps-refl (g.K.Sink.meaning c.args.sink.now); bytes = refl; fed = ([], refl, Feeds.none) }

pub loop-self-preserved : goal.loop-self-preserved
loop-self-preserved g c =
    let feeds = rw (c.in-Ready-Ok.is, c.in-Ready-Ok.field-0-is) at c.write_some.ensures.feeds in
    record {
      kept = SinkKeeps-trans c.loop-self.invariant.kept c.write_some.ensures.kept;
      bytes = c.write_some.ensures.bytes ∙ c.loop-self.invariant.bytes;
      fed = FeedsFront-after g.K.Sink.written (Ready (Ok tt)) c.args.sink.now c.loop-self.sink c.write_some.new.sink c.args.self.now c.loop-self.self c.write_some.new.self c.loop-self.invariant.fed feeds;
    }

pub returns-in_default-clause-feeds : goal.returns-in_default-clause-feeds
returns-in_default-clause-feeds g c = FeedsFront-after g.K.Sink.written (Ready _) c.args.sink.now c.loop-self.sink c.write_some.new.sink c.args.self.now c.loop-self.self c.write_some.new.self c.loop-self.invariant.fed c.in_default.ensures.feeds

pub returns-in_default-2-clause-feeds : goal.returns-in_default-2-clause-feeds
returns-in_default-2-clause-feeds g c = FeedsFront-after g.K.Sink.written c.write_some.result c.args.sink.now c.loop-self.sink c.write_some.new.sink c.args.self.now c.loop-self.self c.write_some.new.self c.loop-self.invariant.fed c.write_some.ensures.feeds

pub returns-clause-feeds : goal.returns-clause-feeds
returns-clause-feeds g c = c.loop-self.invariant.fed
