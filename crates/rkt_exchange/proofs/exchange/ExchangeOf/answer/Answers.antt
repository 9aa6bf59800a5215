use Rattle.rkt_exchange.proofs.Exchanging.{answered_ends, answering_on, answering_stands, answering_starved}
use Rattle.rkt_exchange.specs.Peeks.{waits_of}
use Rattle.rkt_exchange.specs.Relations.{relations_of}
use Rattle.rkt_exchange.proofs.exchange.ExchangeOf.answer.Goals as goal

pub returns-in-Pending : goal.returns-in-Pending
returns-in-Pending g c = λ rule first fits is.
    answering_on (relations_of g.T.Source.Source.meaning g.P.RequestCallback.calling g.Q.ResponseCallback.calling g.H.Handler.calling g.K.CatchHandler.calling rule) first c.args.self.now.tables (waits_of g.T.Source.Source.meaning g.T.Source.Shut.shuts g.T.Source.Source.polled) c.args.answering c.in-Pending.answering c.args.calls c.args.head c.args.moment c.args.gate is
    (c.in-Pending.ensures rule is.out fits (answering_stands (relations_of g.T.Source.Source.meaning g.P.RequestCallback.calling g.Q.ResponseCallback.calling g.H.Handler.calling g.K.CatchHandler.calling rule) first c.args.self.now.tables c.args.answering c.args.calls c.args.head c.args.moment is))

pub returns-in-Ready-Done : goal.returns-in-Ready-Done
returns-in-Ready-Done g c = λ rule first fits is.
    answered_ends (relations_of g.T.Source.Source.meaning g.P.RequestCallback.calling g.Q.ResponseCallback.calling g.H.Handler.calling g.K.CatchHandler.calling rule) first c.args.self.now.tables c.args.answering c.in-Ready-Done.departure c.args.calls c.args.head c.args.moment c.args.gate c.finish.result is
    (rw c.in-Ready-Done.field-0-is at (c.in-Ready-Done.ensures rule is.out fits (answering_stands (relations_of g.T.Source.Source.meaning g.P.RequestCallback.calling g.Q.ResponseCallback.calling g.H.Handler.calling g.K.CatchHandler.calling rule) first c.args.self.now.tables c.args.answering c.args.calls c.args.head c.args.moment is)))
    c.finish.ensures.calls c.finish.ensures.jar c.finish.ensures.cache c.finish.ensures.moment c.finish.ensures.response c.finish.ensures.handle

pub returns-in-Ready-Starved : goal.returns-in-Ready-Starved
returns-in-Ready-Starved g c = λ rule first fits is.
    answering_starved (relations_of g.T.Source.Source.meaning g.P.RequestCallback.calling g.Q.ResponseCallback.calling g.H.Handler.calling g.K.CatchHandler.calling rule) first c.args.self.now.tables c.args.answering c.args.calls c.args.head c.args.moment c.args.gate c.in-Ready-Starved.shutdown is
    (rw c.in-Ready-Starved.field-0-is at (c.in-Ready-Starved.ensures rule is.out fits (answering_stands (relations_of g.T.Source.Source.meaning g.P.RequestCallback.calling g.Q.ResponseCallback.calling g.H.Handler.calling g.K.CatchHandler.calling rule) first c.args.self.now.tables c.args.answering c.args.calls c.args.head c.args.moment is)))
