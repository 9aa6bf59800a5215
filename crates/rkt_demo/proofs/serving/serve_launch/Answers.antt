use Rattle.std.proofs.Common.{◌∙◌, ℕ, [], map}
use Rattle.rkt_link.specs.Memory.{listener_meaning}
use Rattle.rkt_demo.specs.Sample.{IsSample}
use Rattle.rkt_demo.specs.Shown.{asked_for}
use Rattle.rkt_demo.proofs.Lifted.{sample_lifted}
use Rattle.rkt_demo.proofs.NeverWaits.{is_want}
use Rattle.rkt_demo.proofs.Histories.{all_served, given_front, launched_serves, trip_told}
use Rattle.rkt_demo.proofs.serving.serve_launch.Goals as goal

pub returns-in-Ok-launch-clause-serves : goal.returns-in-Ok-launch-clause-serves
returns-in-Ok-launch-clause-serves g c table sampled =
    let launched = c.in-Ok-launch.ensures in
    let window = (g.C.Clock.meaning c.args.clock).window in
    let word : ℕ = g.Q.StopReason.stop_word in
    let sample : IsSample table c.in-Ok-launch.launched.rocket.tables = sample_lifted _ table c.args.rocket c.in-Ok-launch.launched.rocket _ launched.tables.left sampled launched.tables.lifts_off in
    let given = given_front c.in-Ok.listener c.in-Ok-launch.launched.listener (map asked_for c.args.requests.items) launched.settled c.in-Ok.ensures.offers in
    rw c.into_served.ensures.history
    (launched_serves word window table c.in-Ok-launch.launched.rocket.tables sample (listener_meaning c.in-Ok-launch.launched.listener).given c.in-Ok-launch.launched.listener.given c.in-Ok-launch.launched.history.events c.args.requests.items given
    launched.requests launched.moments launched.entries (trip_told _ _ word word window c.in-Ok-launch.launched.rocket.tables g.met.Q.StopReason.alone [] c.in-Ok-launch.launched.history.events launched.caused launched.ordered) launched.none_abandoned)

pub returns-in-Ok-launch-clause-all : goal.returns-in-Ok-launch-clause-all
returns-in-Ok-launch-clause-all g c none =
    let launched = c.in-Ok-launch.ensures in
    let window = (g.C.Clock.meaning c.args.clock).window in
    rw c.into_served.ensures.history
    (all_served _ none _ g.Q.StopReason.stop_word window c.in-Ok-launch.launched.rocket.tables c.in-Ok.listener c.in-Ok-launch.launched.listener c.in-Ok-launch.launched.history.events c.args.requests.items launched.caused launched.offers
    launched.requests c.in-Ok.ensures.offers)

pub returns-in-Ok-launch-clause-table : goal.returns-in-Ok-launch-clause-table
returns-in-Ok-launch-clause-table g c = c.into_served.ensures.table ∙ c.in-Ok-launch.ensures.tables.lifts_off.table

pub returns-in-Ok-launch-clause-window : goal.returns-in-Ok-launch-clause-window
returns-in-Ok-launch-clause-window g c = rw c.into_served.ensures.clock c.in-Ok-launch.ensures.window

pub want_of-requires : goal.want_of-requires
want_of-requires g c =
    let failed = c.in-Err.ensures.complete tt c.in-Ok.ensures.sound in
    is_want _ _ _ g.Q.StopReason.stop_word (g.C.Clock.meaning c.args.clock).window failed.0 failed.1
