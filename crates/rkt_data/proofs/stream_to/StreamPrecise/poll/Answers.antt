use Rattle.std.proofs.Common.{◌≡◌, ◌∙◌, Some, false, ap, refl}
use Rattle.rkt_data.proofs.stream_to.StreamPrecise.poll.Goals as goal

pub returns-in-Waiting-clause-calls : goal.returns-in-Waiting-clause-calls
returns-in-Waiting-clause-calls g c = λ none. let pumped = rw c.in-Waiting.is at c.run-pumped.ensures.calls in rw (← c.self.view_is) pumped

pub returns-in-Failed-clause-calls : goal.returns-in-Failed-clause-calls
returns-in-Failed-clause-calls g c = λ none. let pumped = rw c.in-Failed.is at c.run-pumped.ensures.calls in rw (← c.self.view_is) pumped

pub returns-in-Done-clause-calls : goal.returns-in-Done-clause-calls
returns-in-Done-clause-calls g c = λ none. let pumped = rw c.in-Done.is at c.run-pumped.ensures.calls in rw (← c.self.view_is) pumped

pub returns-in-Waiting-clause-answer : goal.returns-in-Waiting-clause-answer
returns-in-Waiting-clause-answer g c = λ none.
    let undone : c.self.inside.done ≡ false = ap (λ s. s.done) c.self.view_is ∙ c.requires in
    let stops = rw c.in-Waiting.is at c.run-pumped.ensures.stops in
    rw (← c.self.view_is) (c.in_default.is, undone, stops)

pub returns-in-Failed-clause-answer : goal.returns-in-Failed-clause-answer
returns-in-Failed-clause-answer g c = λ none.
    let undone : c.self.inside.done ≡ false = ap (λ s. s.done) c.self.view_is ∙ c.requires in
    let stops = rw c.in-Failed.is at c.run-pumped.ensures.stops in
    rw (← c.self.view_is) (refl {a = Some c.in-Failed.e}, undone, stops)
