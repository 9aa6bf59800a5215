use Rattle.std.specs.Prelude.{[]}
use Rattle.rkt_exchange.proofs.Exchanging.{routing_found, routing_on, routing_stands, routing_starved}
use Rattle.rkt_exchange.specs.Peeks.{waits_of}
use Rattle.rkt_exchange.specs.Relations.{relations_of}
use Rattle.rkt_exchange.proofs.exchange.ExchangeOf.find.Goals as goal

pub returns-in-Pending : goal.returns-in-Pending
returns-in-Pending g c = λ rule first fits is.
    routing_on (relations_of g.T.Source.Source.meaning g.P.RequestCallback.calling g.Q.ResponseCallback.calling g.H.Handler.calling g.K.CatchHandler.calling rule) first c.args.self.now.tables (waits_of g.T.Source.Source.meaning g.T.Source.Shut.shuts g.T.Source.Source.polled) c.args.routing c.in-Pending.routing c.args.calls c.args.head c.args.gate is
    (c.in-Pending.ensures rule (record { at = is.asked; faults = [] }) fits (routing_stands (relations_of g.T.Source.Source.meaning g.P.RequestCallback.calling g.Q.ResponseCallback.calling g.H.Handler.calling g.K.CatchHandler.calling rule) first c.args.self.now.tables c.args.routing c.args.calls c.args.head is))

pub returns-in-Ready-Found : goal.returns-in-Ready-Found
returns-in-Ready-Found g c = λ rule first fits is.
    c.begin_answering.ensures rule first fits
    (routing_found (relations_of g.T.Source.Source.meaning g.P.RequestCallback.calling g.Q.ResponseCallback.calling g.H.Handler.calling g.K.CatchHandler.calling rule) first c.args.self.now.tables c.args.routing c.args.calls c.args.head c.args.gate c.in-Ready-Found.live c.in-Ready-Found.response is
    (rw c.in-Ready-Found.field-0-is at (c.in-Ready-Found.ensures rule (record { at = is.asked; faults = [] }) fits (routing_stands (relations_of g.T.Source.Source.meaning g.P.RequestCallback.calling g.Q.ResponseCallback.calling g.H.Handler.calling g.K.CatchHandler.calling rule) first c.args.self.now.tables c.args.routing c.args.calls c.args.head is))))

pub returns-in-Ready-Starved : goal.returns-in-Ready-Starved
returns-in-Ready-Starved g c = λ rule first fits is.
    routing_starved (relations_of g.T.Source.Source.meaning g.P.RequestCallback.calling g.Q.ResponseCallback.calling g.H.Handler.calling g.K.CatchHandler.calling rule) first c.args.self.now.tables c.args.routing c.args.calls c.args.head c.args.gate c.in-Ready-Starved.shutdown is
    (rw c.in-Ready-Starved.field-0-is at (c.in-Ready-Starved.ensures rule (record { at = is.asked; faults = [] }) fits (routing_stands (relations_of g.T.Source.Source.meaning g.P.RequestCallback.calling g.Q.ResponseCallback.calling g.H.Handler.calling g.K.CatchHandler.calling rule) first c.args.self.now.tables c.args.routing c.args.calls c.args.head is)))
