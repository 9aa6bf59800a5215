use Rattle.std.proofs.Common.{◌≡◌, ◌++◌, ◌∙◌, ap}
use Rattle.rkt_life.specs.Built.{built}
use Rattle.rkt_life.specs.NoFairing.{no_info}
use Rattle.rkt_sample.specs.Mounted.{sample_catchers, sample_routes}
use Rattle.rkt_script.specs.Words.{Table}
use Rattle.rkt_demo.proofs.Igniting.{Built, accepted_so, made_so, refused_so, sample_built, table_so}
use Rattle.rkt_demo.proofs.sample.Sample.rocket.Goals as goal

-- with a table, no fairing of its own, and the shield; then the routes; then the catchers
built_so : (table : Table) (one two three : Built) → one ≡ built (λ fairing. record { 0 = 1 }) (λ fairing. no_info) table → two ≡ record one { routes = one.routes ++ sample_routes }
    → three ≡ record two { catchers = two.catchers ++ sample_catchers } → three ≡ sample_built table
built_so table one two three first second third =
    third ∙ ap (λ (b : Built). record b { catchers = b.catchers ++ sample_catchers }) (second ∙ ap (λ (b : Built). record b { routes = b.routes ++ sample_routes }) first)

pub returns-clause-made : goal.returns-clause-made
returns-clause-made g c =
    made_so _ _ _ _ c.args.table c.in_ok-rocket-3.rocket c.ignite.result
    (built_so c.args.table c.in_ok-rocket.rocket c.in_ok-rocket-2.rocket c.in_ok-rocket-3.rocket c.in_ok-rocket.ensures c.in_ok-rocket-2.ensures c.in_ok-rocket-3.ensures) c.ignite.ensures.ignited

pub returns-clause-table : goal.returns-clause-table
returns-clause-table g c =
    table_so _ _ _ _ c.args.table c.in_ok-rocket-3.rocket c.ignite.result
    (built_so c.args.table c.in_ok-rocket.rocket c.in_ok-rocket-2.rocket c.in_ok-rocket-3.rocket c.in_ok-rocket.ensures c.in_ok-rocket-2.ensures c.in_ok-rocket-3.ensures) c.ignite.ensures.ignited

pub returns-clause-accepted : goal.returns-clause-accepted
returns-clause-accepted g c =
    accepted_so _ _ _ _ c.args.table c.in_ok-rocket-3.rocket c.ignite.result
    (built_so c.args.table c.in_ok-rocket.rocket c.in_ok-rocket-2.rocket c.in_ok-rocket-3.rocket c.in_ok-rocket.ensures c.in_ok-rocket-2.ensures c.in_ok-rocket-3.ensures) c.ignite.ensures.ignited

pub returns-clause-refused : goal.returns-clause-refused
returns-clause-refused g c =
    refused_so _ _ _ _ c.args.table c.in_ok-rocket-3.rocket c.ignite.result
    (built_so c.args.table c.in_ok-rocket.rocket c.in_ok-rocket-2.rocket c.in_ok-rocket-3.rocket c.in_ok-rocket.ensures c.in_ok-rocket-2.ensures c.in_ok-rocket-3.ensures) c.ignite.ensures.refused
