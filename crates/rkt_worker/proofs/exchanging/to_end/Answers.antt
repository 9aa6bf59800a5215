use Rattle.std.proofs.Common.{◌∙◌, refl, subst, sym, arith}
use Rattle.rkt_exchange.specs.Peeks.{waits_of}
use Rattle.rkt_exchange.specs.Relations.{relations_of}
use Rattle.rkt_exchange.specs.Invariant.{EndsSo}
use Rattle.rkt_worker.proofs.Abandoning.{may_wait}
use Rattle.rkt_worker.proofs.Endings.{fit_gate, fit_so_far, goes_on}
use Rattle.rkt_worker.proofs.Outcomes.{some_none}
use Rattle.rkt_worker.specs.Waiting.{MayBePending}
use Rattle.rkt_worker.proofs.exchanging.to_end.Goals as goal

pub loop-init : goal.loop-init
loop-init g c = (tt, tt, c.requires.going, refl, c.requires.keeps, g.met.G.Gates.stays c.args.gates.now, λ rule first fit stands. stands, λ trip found. absurd (cc found))

pub loop-preserved : goal.loop-preserved
loop-preserved g c =
    let inv = c.loop.invariant in
    let first_of = g.G.Gates.watched c.args.gates.now in
    let old = g.G.Gates.watched c.loop.gates in
    let new = g.G.Gates.watched c.next_gate-gate.new.self in
    let gate = c.next_gate-gate.result in
    let next = c.next_gate-gate.ensures in
    let leads = g.met.G.Gates.goes_on _ _ _ next.keeps inv.5 next.leads in
    let on = g.met.G.Gates.tells _ _ leads in
    let step = g.met.G.Gates.tells _ _ next.leads in
    let polled = c.in-Pending.ensures in (
      tt,
      tt,
      polled.going refl,
      polled.tables ∙ inv.3,
      next.keeps,
      leads,
      λ rule first fit stands.
          let fits = fit_gate rule c.args.grace c.args.mercy first_of new gate fit on next.gate (on.grace ∙ c.requires.delays.0) (on.mercy ∙ c.requires.delays.1) in
          goes_on (relations_of g.A.Source.Source.meaning g.A-Fairing-Requests-RequestCallback.calling g.A.Fairing.Responses.ResponseCallback.calling g.A-Handler-Handler.calling g.A.Catch.CatchHandler.calling rule) first c.poll.new.self.tables (waits_of g.A.Source.Source.meaning g.A.Source.Shut.shuts g.A.Source.Source.polled) gate c.poll.new.self.phase
          (polled.gives rule first fits (inv.6 rule first (fit_so_far rule c.args.grace c.args.mercy first_of old new step fit) stands)),
      λ trip found. sym c.trip_of-trip.ensures ∙ found,
    )

pub returns-in-Ready : goal.returns-in-Ready
returns-in-Ready g c =
    let inv = c.loop.invariant in
    let first_of = g.G.Gates.watched c.args.gates.now in
    let old = g.G.Gates.watched c.loop.gates in
    let new = g.G.Gates.watched c.next_gate-gate.new.self in
    let gate = c.next_gate-gate.result in
    let next = c.next_gate-gate.ensures in
    let leads = g.met.G.Gates.goes_on _ _ _ next.keeps inv.5 next.leads in
    let on = g.met.G.Gates.tells _ _ leads in
    let step = g.met.G.Gates.tells _ _ next.leads in
    record {
      keeps = next.keeps;
      leads = leads;
      ends = λ rule first fit stands.
          let fits = fit_gate rule c.args.grace c.args.mercy first_of new gate fit on next.gate (on.grace ∙ c.requires.delays.0) (on.mercy ∙ c.requires.delays.1) in
          let polled = c.in-Ready.ensures in
          subst (λ ts. EndsSo (relations_of g.A.Source.Source.meaning g.A-Fairing-Requests-RequestCallback.calling g.A.Fairing.Responses.ResponseCallback.calling g.A-Handler-Handler.calling g.A.Catch.CatchHandler.calling rule) first ts c.in-Ready.ended) (polled.tables ∙ inv.3)
          (polled.gives rule first fits (inv.6 rule first (fit_so_far rule c.args.grace c.args.mercy first_of old new step fit) stands));
      late = λ none. absurd (some_none c.in-Ready.ended none);
    }

pub returns-then-is_late : goal.returns-then-is_late
returns-then-is_late g c =
    let inv = c.loop.invariant in
    let first_of = g.G.Gates.watched c.args.gates.now in
    let old = g.G.Gates.watched c.loop.gates in
    let new = g.G.Gates.watched c.next_gate-gate.new.self in
    let gate = c.next_gate-gate.result in
    let next = c.next_gate-gate.ensures in
    let leads = g.met.G.Gates.goes_on _ _ _ next.keeps inv.5 next.leads in
    let on = g.met.G.Gates.tells _ _ leads in
    let step = g.met.G.Gates.tells _ _ next.leads in
    record {
      keeps = next.keeps;
      leads = leads;
      ends = λ rule first fit stands.
          let fits = fit_gate rule c.args.grace c.args.mercy first_of new gate fit on next.gate (on.grace ∙ c.requires.delays.0) (on.mercy ∙ c.requires.delays.1) in
          let polled = c.in-Pending.ensures in
          subst (λ ts. MayBePending (relations_of g.A.Source.Source.meaning g.A-Fairing-Requests-RequestCallback.calling g.A.Fairing.Responses.ResponseCallback.calling g.A-Handler-Handler.calling g.A.Catch.CatchHandler.calling rule) g.A.Source.Source.meaning ts) (polled.tables ∙ inv.3)
          (may_wait (relations_of g.A.Source.Source.meaning g.A-Fairing-Requests-RequestCallback.calling g.A.Fairing.Responses.ResponseCallback.calling g.A-Handler-Handler.calling g.A.Catch.CatchHandler.calling rule) g.A.Source.Source.meaning c.poll.new.self.tables g.A.Source.Shut.shuts g.A.Source.Source.polled first gate c.poll.new.self.phase
          (polled.gives rule first fits (inv.6 rule first (fit_so_far rule c.args.grace c.args.mercy first_of old new step fit) stands)));
      late = λ none.
          let late = c.is_late.ensures.0 c.if-is_late.true in
          (late.0, sym c.trip_of-trip.ensures ∙ late.1, omega (arith, late.2, next.gate.last));
    }

pub next_gate-gate-requires : goal.next_gate-gate-requires
next_gate-gate-requires g c = record { keeps = c.loop.invariant.4 }

pub trip_of-trip-requires : goal.trip_of-trip-requires
trip_of-trip-requires g c = record {
  keeps = c.next_gate-gate.ensures.keeps;
  known = λ trip found. (g.met.G.Gates.tells _ _ c.next_gate-gate.ensures.leads).trip trip (c.loop.invariant.7 trip found);
}
