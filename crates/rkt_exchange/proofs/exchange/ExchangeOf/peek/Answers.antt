use Rattle.std.specs.Prelude.{take}
use Rattle.std.proofs.Common.{refl}
use Rattle.rkt_base.specs.declared.poll.Poll.TheVariants.{Pending}
use Rattle.rkt_exchange.proofs.Exchanging.{peeking_done, peeking_on}
use Rattle.rkt_exchange.proofs.Peeks.{peek_on, peek_once}
use Rattle.rkt_exchange.proofs.Running.{peek_runs, tap_runs, taps_run_on}
use Rattle.rkt_exchange.specs.Peeks.{cut_reads, cuts, waits_of}
use Rattle.rkt_exchange.specs.Relations.{relations_of}
use Rattle.rkt_exchange.proofs.exchange.ExchangeOf.peek.Goals as goal

pub returns-in-Pending : goal.returns-in-Pending
returns-in-Pending g c = λ rule first fits is.
    let gives = c.in-Pending.ensures in
    peeking_on (relations_of g.T.Source.Source.meaning g.P.RequestCallback.calling g.Q.ResponseCallback.calling g.H.Handler.calling g.K.CatchHandler.calling rule) first c.args.self.now.tables (waits_of g.T.Source.Source.meaning g.T.Source.Shut.shuts g.T.Source.Source.polled) c.args.peeking c.in-Pending.peeking c.args.gate is gives.0 gives.1
    (λ shown after peeks. record {
      peek = peek_on (cuts g.T.Source.Source.meaning) rule c.args.gate fits c.args.peeking.body c.in-Pending.peeking.body after shown gives.1.peeked peeks.peek;
      machine = taps_run_on rule c.args.peeking.body.tap c.in-Pending.peeking.body.tap after.tap (tap_runs g.T.Source.Shut.shuts g.T.Source.Source.polled rule c.args.gate fits Pending c.args.peeking.body.tap c.in-Pending.peeking.body.tap gives.1.by_gate) peeks.machine;
    })

pub returns-in-Ready : goal.returns-in-Ready
returns-in-Ready g c = λ rule first fits is.
    let gives = c.in-Ready.ensures in
    let shown = take 14 c.in-Ready.opened.body.held in
    c.begin_asking.ensures rule first fits
    (peeking_done (relations_of g.T.Source.Source.meaning g.P.RequestCallback.calling g.Q.ResponseCallback.calling g.H.Handler.calling g.K.CatchHandler.calling rule) first c.args.self.now.tables c.args.peeking c.in-Ready.opened shown is gives.0
    (record {
      peek = peek_once (cuts g.T.Source.Source.meaning) rule c.args.gate fits (cut_reads g.T.Source.Shut.shuts g.T.Source.Source.polled) c.args.peeking.body c.in-Ready.opened.body shown gives.1 refl;
      machine = peek_runs g.T.Source.Shut.shuts g.T.Source.Source.polled rule c.args.gate fits c.args.peeking.body c.in-Ready.opened.body gives.1.by_gate;
    }) gives.2)
