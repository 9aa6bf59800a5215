use Rattle.std.proofs.Common.{◌∙◌, Some, List, sym, ap, refl}
use Rattle.rkt_link.proofs.Listening.{asks_more}
use Rattle.rkt_link.specs.Asked.{Asked}
use Rattle.rkt_link.specs.Memory.{asked_of}
use Rattle.rkt_link.proofs.list_listener.ListListenerListener.poll_accept.Goals as goal

pub returns-in-Some-clause-given : goal.returns-in-Some-clause-given
returns-in-Some-clause-given c =
    let more = asks_more c.self.inside.offered.value.items c.self.inside.given c.in-Some.link c.pop_front.new.self.items (sym c.self.invariant.left_is ∙ c.in-Some.ensures.items) in
    (asked_of c.in-Some.link, refl, rw (← c.self.view_is) (ap (λ (asks : List Asked). Some asks) more))
