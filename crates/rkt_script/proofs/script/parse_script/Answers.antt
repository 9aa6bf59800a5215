use Rattle.std.proofs.Common.{◌≡◌, ◌∙◌, ℕ, List, length, not, refl, inl, inr, ap, sym, length-append, arith}
use Rattle.std.specs.Option.{option_map}
use Rattle.rkt_script.specs.Script.{lines_of, content_of, is_shutdown, AddsWithin}
use Rattle.rkt_script.proofs.Offered.{Tells, ended, goes_on}
use Rattle.rkt_script.proofs.script.parse_script.Goals.{then-is_none+then-is_shutdown, else-is_none, else-is_none-via-then-is_none+else-is_shutdown, else-is_none-via-else-is_none}
use Rattle.rkt_script.proofs.script.parse_script.Goals as goal

pub returns-in-Err-Refused-clause-line : goal.returns-in-Err-Refused-clause-line
returns-in-Err-Refused-clause-line c =
    let line : List ℕ = c.first_line.result.0.now in
    let content : c.content_of-content.result.now ≡ content_of line = c.content_of-content.ensures in
    let tells : Tells (option_map (λ v. v.items) c.loop-rest.offered) (option_map (λ v. v.items) c.if-is_none.offered) c.loop-rest.requests.items c.if-is_none.requests.items line =
    elim c.if-is_none.branch [
      | then-is_none+then-is_shutdown w ↦
          ended (λ v. v.items) c.loop-rest.offered c.if-is_none.offered w.replace.result c.loop-rest.requests.items c.if-is_none.requests.items line (c.is_none.ensures ∙ ap not w.if-is_none.true)
          (ap is_shutdown (sym content) ∙ sym w.is_shutdown.ensures ∙ w.if-is_shutdown.true) w.offered-is (ap (λ v. v.items) w.replace.ensures.value)
      | else-is_none w ↦ elim w.else-is_none.branch [
        | else-is_none-via-then-is_none+else-is_shutdown v ↦
            goes_on (λ v. v.items) c.loop-rest.offered c.if-is_none.offered c.loop-rest.requests.items c.if-is_none.requests.items line
            (inr (ap is_shutdown (sym content) ∙ sym v.is_shutdown.ensures ∙ v.if-is_shutdown.false)) w.offered-is (ap (λ v. v.items) w.requests-is)
        | else-is_none-via-else-is_none v ↦
            goes_on (λ v. v.items) c.loop-rest.offered c.if-is_none.offered c.loop-rest.requests.items c.if-is_none.requests.items line
            (inl (c.is_none.ensures ∙ ap not v.if-is_none.false)) w.offered-is (ap (λ v. v.items) w.requests-is)
      ]
    ] in
    let refused = rw c.in-Err-Refused.field-0-is at c.in-Err-Refused.ensures.refused in
    c.loop-rest.invariant.1 c.loop-rest.number (rw c.first_line.ensures.lines (inl (refl, λ next good. refused next (rw content (tells.bad next good.1)))))

pub loop-rest-preserved : goal.loop-rest-preserved
loop-rest-preserved c =
    let line : List ℕ = c.first_line.result.0.now in
    let content : c.content_of-content.result.now ≡ content_of line = c.content_of-content.ensures in
    let tells : Tells (option_map (λ v. v.items) c.loop-rest.offered) (option_map (λ v. v.items) c.if-is_none.offered) c.loop-rest.requests.items c.if-is_none.requests.items line =
    elim c.if-is_none.branch [
      | then-is_none+then-is_shutdown w ↦
          ended (λ v. v.items) c.loop-rest.offered c.if-is_none.offered w.replace.result c.loop-rest.requests.items c.if-is_none.requests.items line (c.is_none.ensures ∙ ap not w.if-is_none.true)
          (ap is_shutdown (sym content) ∙ sym w.is_shutdown.ensures ∙ w.if-is_shutdown.true) w.offered-is (ap (λ v. v.items) w.replace.ensures.value)
      | else-is_none w ↦ elim w.else-is_none.branch [
        | else-is_none-via-then-is_none+else-is_shutdown v ↦
            goes_on (λ v. v.items) c.loop-rest.offered c.if-is_none.offered c.loop-rest.requests.items c.if-is_none.requests.items line
            (inr (ap is_shutdown (sym content) ∙ sym v.is_shutdown.ensures ∙ v.if-is_shutdown.false)) w.offered-is (ap (λ v. v.items) w.requests-is)
        | else-is_none-via-else-is_none v ↦
            goes_on (λ v. v.items) c.loop-rest.offered c.if-is_none.offered c.loop-rest.requests.items c.if-is_none.requests.items line
            (inl (c.is_none.ensures ∙ ap not v.if-is_none.false)) w.offered-is (ap (λ v. v.items) w.requests-is)
      ]
    ] in
    let inv = c.loop-rest.invariant in
    let after = c.first_line.result.1.now in
    let lines = c.first_line.ensures.lines in
    let next = c.read_line.new.requests.items in
    let here : AddsWithin c.loop-rest.room c.loop-rest.requests.items line next = (omega arith, tells.good next (rw content at c.in-Ok.ensures.read)) in (
      λ good. inv.0 (rw lines (good.0, (next, here, good.1))),
      λ number bad. inv.1 number (rw lines (inr (next, here, bad))),
      λ offered offers. inv.2 offered (rw lines (tells.offers c.loop-rest.room next (lines_of after) offered here offers)),
      omega (arith, inv.3, ap length c.first_line.ensures.parts, length-append line after, c.first_line.ensures.moves),
    )
