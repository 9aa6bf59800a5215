use Rattle.rkt_demo.proofs.Showing.{alone_shows}
use Rattle.rkt_demo.proofs.serving.serve_alone.Goals as goal

pub returns-clause-shown : goal.returns-clause-shown
returns-clause-shown g c stands =
    let served = c.in_ok-served.ensures in
    alone_shows c.args.table (g.C.Clock.meaning c.args.clock).window c.args.requests.items c.in_ok-served.served.history.events c.in_ok-text.field-0.items stands (served.all (λ _ no. no)) served.serves c.in_ok-text.ensures
