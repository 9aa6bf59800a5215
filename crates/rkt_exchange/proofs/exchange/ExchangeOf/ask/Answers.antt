use Rattle.rkt_exchange.proofs.Exchanging.{asking_done, asking_on, asking_stands, asking_starved}
use Rattle.rkt_exchange.specs.Peeks.{waits_of}
use Rattle.rkt_exchange.specs.Relations.{relations_of}
use Rattle.rkt_exchange.proofs.exchange.ExchangeOf.ask.Goals as goal

pub returns-in-Pending : goal.returns-in-Pending
returns-in-Pending g c = λ rule first fits is.
    asking_on (relations_of g.T.Source.Source.meaning g.P.RequestCallback.calling g.Q.ResponseCallback.calling g.H.Handler.calling g.K.CatchHandler.calling rule) first c.args.self.now.tables (waits_of g.T.Source.Source.meaning g.T.Source.Shut.shuts g.T.Source.Source.polled) c.args.asking c.in-Pending.asking c.args.gate is
    (c.in-Pending.ensures rule is.opened fits (asking_stands (relations_of g.T.Source.Source.meaning g.P.RequestCallback.calling g.Q.ResponseCallback.calling g.H.Handler.calling g.K.CatchHandler.calling rule) first c.args.self.now.tables c.args.asking is))

pub returns-in-Ready-Done : goal.returns-in-Ready-Done
returns-in-Ready-Done g c = λ rule first fits is.
    c.begin_routing.ensures rule first fits
    (asking_done (relations_of g.T.Source.Source.meaning g.P.RequestCallback.calling g.Q.ResponseCallback.calling g.H.Handler.calling g.K.CatchHandler.calling rule) first c.args.self.now.tables c.args.asking c.in-Ready-Done.arrival c.args.gate is
    (rw c.in-Ready-Done.field-0-is at (c.in-Ready-Done.ensures rule is.opened fits (asking_stands (relations_of g.T.Source.Source.meaning g.P.RequestCallback.calling g.Q.ResponseCallback.calling g.H.Handler.calling g.K.CatchHandler.calling rule) first c.args.self.now.tables c.args.asking is))))

pub returns-in-Ready-Starved : goal.returns-in-Ready-Starved
returns-in-Ready-Starved g c = λ rule first fits is.
    asking_starved (relations_of g.T.Source.Source.meaning g.P.RequestCallback.calling g.Q.ResponseCallback.calling g.H.Handler.calling g.K.CatchHandler.calling rule) first c.args.self.now.tables c.args.asking c.in-Ready-Starved.shutdown c.args.gate is
    (rw c.in-Ready-Starved.field-0-is at (c.in-Ready-Starved.ensures rule is.opened fits (asking_stands (relations_of g.T.Source.Source.meaning g.P.RequestCallback.calling g.Q.ResponseCallback.calling g.H.Handler.calling g.K.CatchHandler.calling rule) first c.args.self.now.tables c.args.asking is)))
