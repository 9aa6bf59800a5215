use Rattle.rkt_exchange.proofs.exchange.ExchangeOf.advance.Goals as goal

pub returns-in-Peeking : goal.returns-in-Peeking
returns-in-Peeking g c = λ rule first fits stands. c.peek.ensures rule first fits (rw c.in-Peeking.is at stands)

pub returns-in-Preprocessing : goal.returns-in-Preprocessing
returns-in-Preprocessing g c = λ rule first fits stands. c.ask.ensures rule first fits (rw c.in-Preprocessing.is at stands)

pub returns-in-Routing : goal.returns-in-Routing
returns-in-Routing g c = λ rule first fits stands. c.find.ensures rule first fits (rw c.in-Routing.is at stands)

pub returns-in-Refusing : goal.returns-in-Refusing
returns-in-Refusing g c = λ rule first fits stands. c.refuse.ensures rule first fits (rw c.in-Refusing.is at stands)

pub returns-in-Finalizing : goal.returns-in-Finalizing
returns-in-Finalizing g c = λ rule first fits stands. c.answer.ensures rule first fits (rw c.in-Finalizing.is at stands)
