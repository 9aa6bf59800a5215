use Rattle.std.proofs.Common.{◌≡◌, ◌+◌, ◌-◌, Ok, Err, true, false, length, [], take, drop, arith, inl, inr, refl, length-drop, length-take}
use Rattle.rkt_base.specs.declared.poll.Poll.TheVariants.{Ready, Pending}
use Rattle.rkt_data.specs.Sending.{between}
use Rattle.rkt_data.proofs.Drains.{Gained-none, Gained-read}
use Rattle.rkt_data.proofs.Sends.{CallsAs-sink, CallsAs-source, Pumps-start, Pumps-sent, Pumps-read, between-none, between-front}
use Rattle.rkt_data.proofs.CountedSources.{ByGate-gave, ByGate-once, ByGate-unmet}
use Rattle.rkt_data.proofs.copy.copy.Goals as goal

pub loop-e-init : goal.loop-e-init
loop-e-init g c = (Pumps-start g.S.Source.meaning g.S.Source.polled g.K.Sink.meaning g.K.Sink.written c.args.gate c.args.pipe.now c.args.sink.now _ c.requires.not_probed c.requires.bound, c.requires.order, c.requires.room, c.requires.some, refl)

pub shape_of-buf-in-Waiting : goal.shape_of-buf-in-Waiting
shape_of-buf-in-Waiting g c = c.loop-e.invariant.4

pub returns-in-Waiting-clause-pumps : goal.returns-in-Waiting-clause-pumps
returns-in-Waiting-clause-pumps g c =
    let feeds = rw c.in-Waiting.is at c.send-n.ensures.feeds in
    Pumps-sent Pending Pending c.loop-e.from c.loop-e.to c.send-n.result.0 c.loop-e.buf c.loop-e.invariant.0 (omega (arith, c.send-n.ensures.within, c.loop-e.invariant.1, length-take (c.loop-e.to - c.loop-e.from) (drop c.loop-e.from c.loop-e.buf))) c.send-n.ensures.keeps c.send-n.ensures.gains feeds (λ b m. inr m) (λ e. absurd (cc))

pub shape_of-buf-in-Failed : goal.shape_of-buf-in-Failed
shape_of-buf-in-Failed g c = c.loop-e.invariant.4

pub returns-in-Failed-clause-pumps : goal.returns-in-Failed-clause-pumps
returns-in-Failed-clause-pumps g c =
    let feeds = rw c.in-Failed.is at c.send-n.ensures.feeds in
    Pumps-sent (Ready (Err c.in-Failed.e)) (Ready (Err c.sink_error.result)) c.loop-e.from c.loop-e.to c.send-n.result.0 c.loop-e.buf c.loop-e.invariant.0 (omega (arith, c.send-n.ensures.within, c.loop-e.invariant.1, length-take (c.loop-e.to - c.loop-e.from) (drop c.loop-e.from c.loop-e.buf))) c.send-n.ensures.keeps c.send-n.ensures.gains feeds
    (λ b m. CallsAs-sink g.S.Source.polled g.K.Sink.written c.args.gate c.in-Failed.e c.sink_error.result _ _ _ _ b c.sink_error.ensures m) (λ e. absurd (cc))

pub shape_of-buf-in-Ready-Ok-eq0 : goal.shape_of-buf-in-Ready-Ok-eq0
shape_of-buf-in-Ready-Ok-eq0 g c = omega (arith, c.read.auto.buf, c.loop-e.invariant.4)

pub shape_of-buf-in-Ready-Err : goal.shape_of-buf-in-Ready-Err
shape_of-buf-in-Ready-Err g c = omega (arith, c.read.auto.buf, c.loop-e.invariant.4)

pub shape_of-buf-in-Pending : goal.shape_of-buf-in-Pending
shape_of-buf-in-Pending g c = omega (arith, c.read.auto.buf, c.loop-e.invariant.4)

pub returns-in-Ready-Ok-eq0-clause-pumps : goal.returns-in-Ready-Ok-eq0-clause-pumps
returns-in-Ready-Ok-eq0-clause-pumps g c =
    let a = rw c.in-Ready-Ok-eq0.field-0-is at c.in-Ready-Ok-eq0.ensures.answer in
    let asks = rw c.in-Ready-Ok-eq0.field-0-is at c.in-Ready-Ok-eq0.ensures.by_gate in
    let all = rw c.in-All.is at c.send-n.ensures.stops in
    let feeds = rw c.in-All.is at c.send-n.ensures.feeds in
    let none : between (c.loop-e.from + c.send-n.result.0) c.loop-e.to c.loop-e.buf ≡ [] = between-none (c.loop-e.from + c.send-n.result.0) c.loop-e.to c.loop-e.buf (omega (arith, all, c.loop-e.invariant.1, c.loop-e.invariant.2, length-take (c.loop-e.to - c.loop-e.from) (drop c.loop-e.from c.loop-e.buf), length-drop c.loop-e.from c.loop-e.buf)) in
    Pumps-read (Ready (Ok true)) (Ready (Ok true)) [] (Pumps-sent (Ready (Ok tt)) (Ready (Ok false)) c.loop-e.from c.loop-e.to c.send-n.result.0 c.loop-e.buf c.loop-e.invariant.0 (omega (arith, c.send-n.ensures.within, c.loop-e.invariant.1, length-take (c.loop-e.to - c.loop-e.from) (drop c.loop-e.from c.loop-e.buf))) c.send-n.ensures.keeps c.send-n.ensures.gains feeds (λ b m. m) (λ e. absurd (cc))) none refl c.read.ensures.follows c.read.ensures.bound c.read.ensures.probed (Gained-none (omega (arith, a.1, c.in-Ready-Ok-eq0.field-0-0-is)))
    (ByGate-once g.S.Source.polled c.args.gate _ (Ready (Ok c.in-Ready-Ok-eq0.field-0-0)) c.loop-e.pipe.opened c.read.new.self.opened asks)
    (λ full over. ByGate-unmet g.S.Source.polled c.args.gate (length c.loop-e.buf) (Ready (Ok c.in-Ready-Ok-eq0.field-0-0)) c.loop-e.pipe.opened c.read.new.self.opened asks (omega (arith, a.1, c.in-Ready-Ok-eq0.field-0-0-is)) c.read.ensures.follows.limit full) (λ b m. m)

pub returns-in-Ready-Err-clause-pumps : goal.returns-in-Ready-Err-clause-pumps
returns-in-Ready-Err-clause-pumps g c =
    let a = rw c.in-Ready-Err.field-0-is at c.in-Ready-Err.ensures.answer in
    let asks = rw c.in-Ready-Err.field-0-is at c.in-Ready-Err.ensures.by_gate in
    let all = rw c.in-All.is at c.send-n.ensures.stops in
    let feeds = rw c.in-All.is at c.send-n.ensures.feeds in
    let none : between (c.loop-e.from + c.send-n.result.0) c.loop-e.to c.loop-e.buf ≡ [] = between-none (c.loop-e.from + c.send-n.result.0) c.loop-e.to c.loop-e.buf (omega (arith, all, c.loop-e.invariant.1, c.loop-e.invariant.2, length-take (c.loop-e.to - c.loop-e.from) (drop c.loop-e.from c.loop-e.buf), length-drop c.loop-e.from c.loop-e.buf)) in
    Pumps-read (Ready (Err c.in-Ready-Err.e)) (Ready (Err c.from.result)) [] (Pumps-sent (Ready (Ok tt)) (Ready (Ok false)) c.loop-e.from c.loop-e.to c.send-n.result.0 c.loop-e.buf c.loop-e.invariant.0 (omega (arith, c.send-n.ensures.within, c.loop-e.invariant.1, length-take (c.loop-e.to - c.loop-e.from) (drop c.loop-e.from c.loop-e.buf))) c.send-n.ensures.keeps c.send-n.ensures.gains feeds (λ b m. m) (λ e. absurd (cc))) none refl c.read.ensures.follows c.read.ensures.bound c.read.ensures.probed (Gained-none (a.0))
    (ByGate-once g.S.Source.polled c.args.gate _ (Ready (Err c.in-Ready-Err.e)) c.loop-e.pipe.opened c.read.new.self.opened asks) (λ full over. absurd (cc))
    (λ b m. CallsAs-source g.S.Source.polled g.K.Sink.written c.args.gate c.in-Ready-Err.e c.from.result _ _ _ _ b c.from.ensures m)

pub returns-in-Pending-clause-pumps : goal.returns-in-Pending-clause-pumps
returns-in-Pending-clause-pumps g c =
    let all = rw c.in-All.is at c.send-n.ensures.stops in
    let feeds = rw c.in-All.is at c.send-n.ensures.feeds in
    let none : between (c.loop-e.from + c.send-n.result.0) c.loop-e.to c.loop-e.buf ≡ [] = between-none (c.loop-e.from + c.send-n.result.0) c.loop-e.to c.loop-e.buf (omega (arith, all, c.loop-e.invariant.1, c.loop-e.invariant.2, length-take (c.loop-e.to - c.loop-e.from) (drop c.loop-e.from c.loop-e.buf), length-drop c.loop-e.from c.loop-e.buf)) in
    Pumps-read Pending Pending [] (Pumps-sent (Ready (Ok tt)) (Ready (Ok false)) c.loop-e.from c.loop-e.to c.send-n.result.0 c.loop-e.buf c.loop-e.invariant.0 (omega (arith, c.send-n.ensures.within, c.loop-e.invariant.1, length-take (c.loop-e.to - c.loop-e.from) (drop c.loop-e.from c.loop-e.buf))) c.send-n.ensures.keeps c.send-n.ensures.gains feeds (λ b m. m) (λ e. absurd (cc))) none refl c.read.ensures.follows c.read.ensures.bound c.read.ensures.probed (Gained-none (c.in-Pending.ensures.answer.0))
    (ByGate-once g.S.Source.polled c.args.gate _ Pending c.loop-e.pipe.opened c.read.new.self.opened c.in-Pending.ensures.by_gate) (λ full over. absurd (cc)) (λ b m. inl m)

pub loop-e-preserved : goal.loop-e-preserved
loop-e-preserved g c =
    let a = rw c.in-Ready-Ok.field-0-is at c.in-Ready-Ok.ensures.answer in
    let asks = rw c.in-Ready-Ok.field-0-is at c.in-Ready-Ok.ensures.by_gate in
    let all = rw c.in-All.is at c.send-n.ensures.stops in
    let feeds = rw c.in-All.is at c.send-n.ensures.feeds in
    let none : between (c.loop-e.from + c.send-n.result.0) c.loop-e.to c.loop-e.buf ≡ [] = between-none (c.loop-e.from + c.send-n.result.0) c.loop-e.to c.loop-e.buf (omega (arith, all, c.loop-e.invariant.1, c.loop-e.invariant.2, length-take (c.loop-e.to - c.loop-e.from) (drop c.loop-e.from c.loop-e.buf), length-drop c.loop-e.from c.loop-e.buf)) in (
      Pumps-read (Ready (Ok false)) (Ready (Ok false)) (take c.in-Ready-Ok.k c.read.new.buf) (Pumps-sent (Ready (Ok tt)) (Ready (Ok false)) c.loop-e.from c.loop-e.to c.send-n.result.0 c.loop-e.buf c.loop-e.invariant.0 (omega (arith, c.send-n.ensures.within, c.loop-e.invariant.1, length-take (c.loop-e.to - c.loop-e.from) (drop c.loop-e.from c.loop-e.buf))) c.send-n.ensures.keeps c.send-n.ensures.gains feeds (λ b m. m) (λ e. absurd (cc))) none (between-front c.in-Ready-Ok.k c.read.new.buf) c.read.ensures.follows c.read.ensures.bound c.read.ensures.probed
          (Gained-read c.in-Ready-Ok.k c.read.new.buf (omega (arith, a.0, c.read.auto.buf)) a.1 (λ b t. (a.2 b t).0))
          (ByGate-gave g.S.Source.polled c.args.gate _ c.in-Ready-Ok.k c.loop-e.pipe.opened c.read.new.self.opened (omega arith) asks) (λ full over. absurd (cc)) (λ b m. m),
      omega arith,
      omega (arith, a.0, c.read.auto.buf),
      omega (arith, c.read.auto.buf, c.loop-e.invariant.3),
      omega (arith, c.read.auto.buf, c.loop-e.invariant.4),
    )
