use Rattle.rkt_demo.proofs.Showing.{both_show}
use Rattle.rkt_demo.proofs.serving.serve_stopping.Goals as goal

pub returns-clause-shown : goal.returns-clause-shown
returns-clause-shown g c stands =
    let first = c.in_ok-first.ensures in
    let second = rw (first.window, first.table) at c.in_ok-second.ensures.serves in
    both_show c.args.table (g.C.Clock.meaning c.args.clock).window c.args.requests.items c.args.others.items c.in_ok-first.first.history.events c.in_ok-second.second.history.events c.in_ok-text.field-0.items stands
    (first.all (λ _ no. no)) first.serves second c.in_ok-text.ensures
