use Rattle.std.proofs.Common.{◌∙◌, ℕ, Option, Some, is_some, true, ap, subst, sym}
use Rattle.rkt_exchange.specs.Beginning.{beginning}
use Rattle.rkt_exchange.specs.Relations.{relations_of}
use Rattle.rkt_exchange.specs.Invariant.{EndsSo}
use Rattle.rkt_source.specs.declared.source.Gate.{Gate}
use Rattle.rkt_worker.proofs.Endings.{ended_back, ended_words, ended_moment, ended_lifecycle, fit_any, fit_between, fit_window, if_ended, if_so, if_waits, run_amid}
use Rattle.rkt_worker.specs.Gates.{told, word_in}
use Rattle.rkt_worker.specs.Lifecycle.{body_from}
use Rattle.rkt_worker.specs.Serving.{gates_of, gates_with}
use Rattle.rkt_worker.specs.Waiting.{IsLate, MayBePending}
use Rattle.rkt_worker.proofs.exchanging.run_exchange.Goals as goal

pub returns-in-Ok-clause-lifecycle : goal.returns-in-Ok-clause-lifecycle
returns-in-Ok-clause-lifecycle g c asked same untouched gives =
    let old = told (g.G.Gates.watched c.args.gates.now) in
    let gate = c.gate_of-gate.result in
    let seen : Option ℕ = word_in (g.G.Gates.watched c.to_end-ended.new.gates).trip in
    let rule = gates_with old.window gate.grace gate.mercy (is_some seen) in
    let begun = c.in-Ok.ensures.begun in
    let first = beginning begun.request begun.jar begun.faults (body_from c.args.source) c.args.shutdown in
    if_ended c.to_end-ended.result _ _ _
    (λ ended ends. ended_lifecycle (relations_of g.A.Source.Source.meaning g.A-Fairing-Requests-RequestCallback.calling g.A.Fairing.Responses.ResponseCallback.calling g.A-Handler-Handler.calling g.A.Catch.CatchHandler.calling) (gates_of old.window c.args.tables.now (is_some seen)) c.args.tables.now g.A.Source.Source.meaning asked c.args.head.now c.args.source c.args.shutdown c.in-Ok.exchange ended same untouched gives begun
    (subst (λ ts. EndsSo (relations_of g.A.Source.Source.meaning g.A-Fairing-Requests-RequestCallback.calling g.A.Fairing.Responses.ResponseCallback.calling g.A-Handler-Handler.calling g.A.Catch.CatchHandler.calling (gates_of old.window c.args.tables.now (is_some seen))) first ts ended) begun.same
    (subst (λ (x : Gate). EndsSo (relations_of g.A.Source.Source.meaning g.A-Fairing-Requests-RequestCallback.calling g.A.Fairing.Responses.ResponseCallback.calling g.A-Handler-Handler.calling g.A.Catch.CatchHandler.calling (gates_with old.window x.grace x.mercy (is_some seen))) first c.in-Ok.exchange.tables ended) c.gate_of-gate.ensures ends)))
    (c.to_end-ended.ensures.ends rule first (fit_window gate.grace gate.mercy old (told (g.G.Gates.watched c.to_end-ended.new.gates)) seen (is_some seen) (λ no. no)) (begun.stands rule))

pub returns-in-Ok-clause-waits : goal.returns-in-Ok-clause-waits
returns-in-Ok-clause-waits g c none =
    let old = told (g.G.Gates.watched c.args.gates.now) in
    let gate = c.gate_of-gate.result in
    let seen : Option ℕ = word_in (g.G.Gates.watched c.to_end-ended.new.gates).trip in
    let rule = gates_with old.window gate.grace gate.mercy true in
    let begun = c.in-Ok.ensures.begun in
    let first = beginning begun.request begun.jar begun.faults (body_from c.args.source) c.args.shutdown in
    subst (λ ts. MayBePending (relations_of g.A.Source.Source.meaning g.A-Fairing-Requests-RequestCallback.calling g.A.Fairing.Responses.ResponseCallback.calling g.A-Handler-Handler.calling g.A.Catch.CatchHandler.calling (gates_of old.window c.args.tables.now true)) g.A.Source.Source.meaning ts) begun.same
    (if_waits c.to_end-ended.result _ _ none (c.to_end-ended.ensures.ends rule first (fit_any gate.grace gate.mercy old (told (g.G.Gates.watched c.to_end-ended.new.gates)) seen) (begun.stands rule)))

pub returns-in-Ok-clause-late : goal.returns-in-Ok-clause-late
returns-in-Ok-clause-late g c none =
    subst (λ (x : Gate). IsLate x.grace x.mercy (g.G.Gates.watched c.to_end-ended.new.gates).trip (g.G.Gates.watched c.to_end-ended.new.gates).last) c.gate_of-gate.ensures (c.to_end-ended.ensures.late none)

pub returns-in-Ok-clause-moment : goal.returns-in-Ok-clause-moment
returns-in-Ok-clause-moment g c =
    let old = told (g.G.Gates.watched c.args.gates.now) in
    let new = told (g.G.Gates.watched c.to_end-ended.new.gates) in
    let gate = c.gate_of-gate.result in
    let seen : Option ℕ = word_in (g.G.Gates.watched c.to_end-ended.new.gates).trip in
    let wide = gates_with old.window gate.grace gate.mercy true in
    let narrow = gates_with (Some (old.last, new.last)) gate.grace gate.mercy true in
    let begun = c.in-Ok.ensures.begun in
    let first = beginning begun.request begun.jar begun.faults (body_from c.args.source) c.args.shutdown in
    if_so c.to_end-ended.result _ _ _ (λ ended one two. run_amid old new ended one two)
    (if_ended c.to_end-ended.result _ _ _ (λ ended ends. ended_moment (relations_of g.A.Source.Source.meaning g.A-Fairing-Requests-RequestCallback.calling g.A.Fairing.Responses.ResponseCallback.calling g.A-Handler-Handler.calling g.A.Catch.CatchHandler.calling wide) first c.in-Ok.exchange.tables ended ends) (c.to_end-ended.ensures.ends wide first (fit_any gate.grace gate.mercy old new seen) (begun.stands wide)))
    (if_ended c.to_end-ended.result _ _ _ (λ ended ends. ended_moment (relations_of g.A.Source.Source.meaning g.A-Fairing-Requests-RequestCallback.calling g.A.Fairing.Responses.ResponseCallback.calling g.A-Handler-Handler.calling g.A.Catch.CatchHandler.calling narrow) first c.in-Ok.exchange.tables ended ends) (c.to_end-ended.ensures.ends narrow first (fit_between gate.grace gate.mercy old new seen) (begun.stands narrow)))

pub returns-in-Ok-clause-handle : goal.returns-in-Ok-clause-handle
returns-in-Ok-clause-handle g c =
    let old = told (g.G.Gates.watched c.args.gates.now) in
    let gate = c.gate_of-gate.result in
    let seen : Option ℕ = word_in (g.G.Gates.watched c.to_end-ended.new.gates).trip in
    let rule = gates_with old.window gate.grace gate.mercy true in
    let begun = c.in-Ok.ensures.begun in
    let first = beginning begun.request begun.jar begun.faults (body_from c.args.source) c.args.shutdown in
    if_ended c.to_end-ended.result _ _ _ (λ ended ends. ended_back (relations_of g.A.Source.Source.meaning g.A-Fairing-Requests-RequestCallback.calling g.A.Fairing.Responses.ResponseCallback.calling g.A-Handler-Handler.calling g.A.Catch.CatchHandler.calling rule) first c.in-Ok.exchange.tables ended ends)
    (c.to_end-ended.ensures.ends rule first (fit_any gate.grace gate.mercy old (told (g.G.Gates.watched c.to_end-ended.new.gates)) seen) (begun.stands rule))

pub returns-in-Ok-clause-words : goal.returns-in-Ok-clause-words
returns-in-Ok-clause-words g c =
    let old = told (g.G.Gates.watched c.args.gates.now) in
    let gate = c.gate_of-gate.result in
    let seen : Option ℕ = word_in (g.G.Gates.watched c.to_end-ended.new.gates).trip in
    let rule = gates_with old.window gate.grace gate.mercy true in
    let begun = c.in-Ok.ensures.begun in
    let first = beginning begun.request begun.jar begun.faults (body_from c.args.source) c.args.shutdown in
    if_ended c.to_end-ended.result _ _ _ (λ ended ends. ended_words (relations_of g.A.Source.Source.meaning g.A-Fairing-Requests-RequestCallback.calling g.A.Fairing.Responses.ResponseCallback.calling g.A-Handler-Handler.calling g.A.Catch.CatchHandler.calling rule) first c.in-Ok.exchange.tables ended ends)
    (c.to_end-ended.ensures.ends rule first (fit_any gate.grace gate.mercy old (told (g.G.Gates.watched c.to_end-ended.new.gates)) seen) (begun.stands rule))

pub to_end-ended-requires-clause-delays : goal.to_end-ended-requires-clause-delays
to_end-ended-requires-clause-delays g c = (
  c.requires.delays.0 ∙ sym (ap (λ (x : Gate). x.grace) c.gate_of-gate.ensures),
  c.requires.delays.1 ∙ sym (ap (λ (x : Gate). x.mercy) c.gate_of-gate.ensures),
)

pub returns-in-Err-clause-leads : goal.returns-in-Err-clause-leads
returns-in-Err-clause-leads g c = g.met.G.Gates.stays c.args.gates.now
