use Rattle.rkt_exchange.proofs.Exchanging.{refused_ends, refusing_on, refusing_stands}
use Rattle.rkt_exchange.specs.Peeks.{waits_of}
use Rattle.rkt_exchange.specs.Relations.{relations_of}
use Rattle.rkt_exchange.proofs.exchange.ExchangeOf.refuse.Goals as goal

pub returns-in-Pending : goal.returns-in-Pending
returns-in-Pending g c = λ rule first fits is.
    refusing_on (relations_of g.T.Source.Source.meaning g.P.RequestCallback.calling g.Q.ResponseCallback.calling g.H.Handler.calling g.K.CatchHandler.calling rule) first c.args.self.now.tables (waits_of g.T.Source.Source.meaning g.T.Source.Shut.shuts g.T.Source.Source.polled) c.args.routing c.in-Pending.routing c.args.gate is
    (c.in-Pending.ensures rule first fits (refusing_stands (relations_of g.T.Source.Source.meaning g.P.RequestCallback.calling g.Q.ResponseCallback.calling g.H.Handler.calling g.K.CatchHandler.calling rule) first c.args.self.now.tables c.args.routing is))

pub returns-in-Ready-Found : goal.returns-in-Ready-Found
returns-in-Ready-Found g c = λ rule first fits is.
    rw (c.finished.ensures, c.without_request-ctx.ensures.ctx, c.without_request-ctx.ensures.calls)
    (refused_ends (relations_of g.T.Source.Source.meaning g.P.RequestCallback.calling g.Q.ResponseCallback.calling g.H.Handler.calling g.K.CatchHandler.calling rule) first c.args.self.now.tables c.args.routing c.args.gate c.in-Ready-Found.live c.in-Ready-Found.response fits is
    (rw c.in-Ready-Found.field-0-is at (c.in-Ready-Found.ensures rule first fits (refusing_stands (relations_of g.T.Source.Source.meaning g.P.RequestCallback.calling g.Q.ResponseCallback.calling g.H.Handler.calling g.K.CatchHandler.calling rule) first c.args.self.now.tables c.args.routing is))))

pub returns-in-Ready-Starved : goal.returns-in-Ready-Starved
returns-in-Ready-Starved g c = λ rule first fits is. rw c.in-Ready-Starved.field-0-is at (c.in-Ready-Starved.ensures rule first fits (refusing_stands (relations_of g.T.Source.Source.meaning g.P.RequestCallback.calling g.Q.ResponseCallback.calling g.H.Handler.calling g.K.CatchHandler.calling rule) first c.args.self.now.tables c.args.routing is))
