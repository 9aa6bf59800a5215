use Rattle.std.proofs.Common.{◌≡◌, ◌≤◌, ◌∙◌, Ok, Err, false, length, ap, refl, arith}
use Rattle.rkt_base.specs.declared.poll.Poll.TheVariants.{Ready, Pending}
use Rattle.std.specs.Prelude.{string_bytes}
use Rattle.rkt_data.proofs.Drains.{Draws-closed, Follows-trans, Gathered-drawn, Gathered-same, IsUsedUp-same, Completes-gathered, whole_same}
use Rattle.rkt_data.proofs.CountedSources.{ByGate-caused, TapErrs-after}
use Rattle.rkt_data.proofs.TextLemmas.{resumed_bytes, TextErr-failed, TextErr-closed}
use Rattle.rkt_data.proofs.into_string.IntoString.poll.Goals as goal

pub returns-in-Waiting-clause-by_gate : goal.returns-in-Waiting-clause-by_gate
returns-in-Waiting-clause-by_gate g c = λ none. let texts = rw c.in-Waiting.is at c.read_text.ensures.texts in rw (← c.self.view_is) texts.0.by_gate

pub returns-in-Failed-clause-by_gate : goal.returns-in-Failed-clause-by_gate
returns-in-Failed-clause-by_gate g c = λ none. let texts = rw c.in-Failed.is at c.read_text.ensures.texts in rw (← c.self.view_is) texts.1.by_gate

pub invariant_of-self : goal.invariant_of-self
invariant_of-self g c =
    let undone : c.self.inside.done ≡ false = ap (λ s. s.done) c.self.view_is ∙ c.requires in
    let held = rw (c.in_default.is, undone, ← resumed_bytes c.self.inside.found c.resume-found.result c.resume-found.ensures.found c.resume-found.ensures.none) at c.self.invariant in
    let texts = rw c.in-Waiting.is at c.read_text.ensures.texts in
    rw (c.in_default.is, undone) (Gathered-drawn held.0 texts.0, texts.0.not_probed, texts.1)

pub invariant_of-self-in-Pending : goal.invariant_of-self-in-Pending
invariant_of-self-in-Pending g c =
    let undone : c.self.inside.done ≡ false = ap (λ s. s.done) c.self.view_is ∙ c.requires in
    let held = rw (c.in_default.is, undone, ← resumed_bytes c.self.inside.found c.resume-found.result c.resume-found.ensures.found c.resume-found.ensures.none) at c.self.invariant in
    let texts = rw c.in-Text.is at c.read_text.ensures.texts in
    rw (c.in_default.is, undone) (Gathered-same (Gathered-drawn held.0 texts.0) c.close.ensures.follows c.close.ensures.given, c.in-Pending.ensures.closes.0, IsUsedUp-same c.close.ensures.follows c.close.ensures.given texts.1)

pub returns-in-Failed-clause-answer : goal.returns-in-Failed-clause-answer
returns-in-Failed-clause-answer g c = λ unfailed.
    let undone : c.self.inside.done ≡ false = ap (λ s. s.done) c.self.view_is ∙ c.requires in
    let held = rw (c.in_default.is, undone, ← resumed_bytes c.self.inside.found c.resume-found.result c.resume-found.ensures.found c.resume-found.ensures.none) at c.self.invariant in
    let texts = rw c.in-Failed.is at c.read_text.ensures.texts in
    rw (← c.self.view_is) (refl, undone, TextErr-failed c.self.inside.pipe c.read_text.new.pipe c.self.inside.from _ texts.0 c.in-Failed.e held.0 texts.1 (omega (arith, c.left-in-Failed.ensures.left)) texts.2)

pub returns-in-Pending-clause-by_gate : goal.returns-in-Pending-clause-by_gate
returns-in-Pending-clause-by_gate g c = λ none.
    let texts = rw c.in-Text.is at c.read_text.ensures.texts in
    rw (← c.self.view_is) (Draws-closed Pending texts.0 c.in-Pending.ensures.below c.in-Pending.ensures.by_gate)

pub returns-in-Ready-Err-clause-by_gate : goal.returns-in-Ready-Err-clause-by_gate
returns-in-Ready-Err-clause-by_gate g c = λ none.
    let texts = rw c.in-Text.is at c.read_text.ensures.texts in
    let closed = rw c.in-Ready-Err.field-0-is at c.in-Ready-Err.ensures.by_gate in
    let below = rw c.in-Ready-Err.field-0-is at c.in-Ready-Err.ensures.below in
    rw (← c.self.view_is)
    (ByGate-caused g.S.Source.polled c.args.gate c.in-Ready-Err.e _ _ _ c.from-e.ensures (Draws-closed (Ready (Err c.in-Ready-Err.e)) texts.0 below closed))

pub returns-in-Ready-Ok-clause-by_gate : goal.returns-in-Ready-Ok-clause-by_gate
returns-in-Ready-Ok-clause-by_gate g c = λ none.
    let texts = rw c.in-Text.is at c.read_text.ensures.texts in
    let closed = rw c.in-Ready-Ok.field-0-is at c.in-Ready-Ok.ensures.by_gate in
    let below = rw c.in-Ready-Ok.field-0-is at c.in-Ready-Ok.ensures.below in
    rw (← c.self.view_is) (Draws-closed (Ready (Ok c.in-Ready-Ok.complete)) texts.0 below closed)

pub returns-in-Ready-Err-clause-answer : goal.returns-in-Ready-Err-clause-answer
returns-in-Ready-Err-clause-answer g c = λ unfailed.
    let undone : c.self.inside.done ≡ false = ap (λ s. s.done) c.self.view_is ∙ c.requires in
    let held = rw (c.in_default.is, undone, ← resumed_bytes c.self.inside.found c.resume-found.result c.resume-found.ensures.found c.resume-found.ensures.none) at c.self.invariant in
    let texts = rw c.in-Text.is at c.read_text.ensures.texts in
    let closes = rw c.in-Ready-Err.field-0-is at c.in-Ready-Err.ensures.closes in
    let within : c.read_text.new.pipe.opened.given ≤ c.read_text.new.pipe.opened.limit = omega (arith, c.close.ensures.within, c.close.ensures.given, c.close.ensures.follows.limit) in
    rw (c.from-e.ensures, ← c.self.view_is) (
      refl,
      undone,
      TextErr-closed c.self.inside.pipe.opened c.read_text.new.pipe.opened c.close.new.self.opened c.self.inside.from _ c.in-Ready-Err.e (Gathered-drawn held.0 texts.0) texts.0.follows texts.1 within (rw c.as_str.ensures.value at c.as_str.utf8)
          (TapErrs-after g.S.Source.meaning c.args.gate.tripped c.in-Ready-Err.e _ c.read_text.new.pipe.opened.tap _ texts.0.follows.tap c.close.ensures.follows.tap closes.2),
    )

pub returns-in-Ready-Ok-clause-answer : goal.returns-in-Ready-Ok-clause-answer
returns-in-Ready-Ok-clause-answer g c = λ unfailed.
    let undone : c.self.inside.done ≡ false = ap (λ s. s.done) c.self.view_is ∙ c.requires in
    let held = rw (c.in_default.is, undone, ← resumed_bytes c.self.inside.found c.resume-found.result c.resume-found.ensures.found c.resume-found.ensures.none) at c.self.invariant in
    let texts = rw c.in-Text.is at c.read_text.ensures.texts in
    let closes = rw c.in-Ready-Ok.field-0-is at c.in-Ready-Ok.ensures.closes in
    let within : c.read_text.new.pipe.opened.given ≤ c.read_text.new.pipe.opened.limit = omega (arith, c.close.ensures.within, c.close.ensures.given, c.close.ensures.follows.limit) in
    rw (c.new.ensures, ← c.self.view_is) (
      refl,
      Completes-gathered (string_bytes c.in-Text.text) record { written = length c.as_str.result.now; complete = c.in-Ready-Ok.complete } refl (ap length c.as_str.ensures.value) (Gathered-drawn held.0 texts.0) texts.0.follows texts.1 within
          (λ b t. rw (← texts.0.follows.limit) (closes b (whole_same texts.0.follows ∙ t))),
    )

pub returns-in-Pending-clause-follows : goal.returns-in-Pending-clause-follows
returns-in-Pending-clause-follows g c =
    let texts = rw c.in-Text.is at c.read_text.ensures.texts in
    rw (← c.self.view_is) (Follows-trans texts.0.follows c.close.ensures.follows)

pub returns-in-Ready-Err-clause-follows : goal.returns-in-Ready-Err-clause-follows
returns-in-Ready-Err-clause-follows g c =
    let texts = rw c.in-Text.is at c.read_text.ensures.texts in
    rw (← c.self.view_is) (Follows-trans texts.0.follows c.close.ensures.follows)

pub returns-in-Ready-Ok-clause-follows : goal.returns-in-Ready-Ok-clause-follows
returns-in-Ready-Ok-clause-follows g c =
    let texts = rw c.in-Text.is at c.read_text.ensures.texts in
    rw (← c.self.view_is) (Follows-trans texts.0.follows c.close.ensures.follows)
