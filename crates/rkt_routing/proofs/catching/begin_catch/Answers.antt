use Rattle.rkt_routing.proofs.Statuses.{catch_none, catch_some, catching_begins}
use Rattle.rkt_routing.proofs.catching.begin_catch.Goals as goal

pub returns-in-None-clause-gives : goal.returns-in-None-clause-gives
returns-in-None-clause-gives g c = λ rule first fits stands.
    c.page.ensures.gives rule first
    (catch_none _ first c.args.table.now c.args.live.now c.forget_changes.new.ctx c.args.status c.forget_changes.ensures.kept c.in-None.ensures.position stands)

pub returns-in-None-clause-falls : goal.returns-in-None-clause-falls
returns-in-None-clause-falls g c = c.page.ensures.ends _

pub returns-in-App-clause-gives : goal.returns-in-App-clause-gives
returns-in-App-clause-gives g c = λ rule first fits stands.
    catching_begins _ first c.args.table.now _ c.args.status c.in-Some.position c.in-Some.catcher.now c.in-App.handler c.start.result c.in-Some.ensures.catcher c.in-App.is
    c.start.ensures
    (catch_some _ first c.args.table.now c.args.live.now c.forget_changes.new.ctx c.args.status c.in-Some.position c.forget_changes.ensures.kept c.in-Some.ensures.position stands)

pub returns-in-Rocket-clause-gives : goal.returns-in-Rocket-clause-gives
returns-in-Rocket-clause-gives g c = λ rule first fits stands.
    c.page_of_catcher.ensures.gives rule first c.in-Some.catcher.now c.in-Some.ensures.catcher c.in-Rocket.is
    (catch_some _ first c.args.table.now c.args.live.now c.forget_changes.new.ctx c.args.status c.in-Some.position c.forget_changes.ensures.kept c.in-Some.ensures.position stands)
