use Rattle.std.proofs.Common.{Some, None, rules, refl, subst}
use Rattle.rkt_response.specs.Flash.{Flashed, SaysFlash}
use Rattle.rkt_response.proofs.FlashLemmas.{flash_there}
use Rattle.rkt_response.proofs.flash_message.FlashMessage.read.Goals as goal

pub returns-in_default-parts : goal.returns-in_default-parts
returns-in_default-parts c =
    let silent : (flashed : Flashed) → ¬ SaysFlash c.in-Some.cookie.now.value flashed = subst (λ t. (flashed : Flashed) → ¬ SaysFlash t flashed) c.value.ensures c.in_default-parts.ensures in
    (None, flash_there c.args.jar.now c.in-Some.cookie.now None c.in-Some.ensures silent, refl)

pub returns : goal.returns
returns c =
    let flashed : Flashed = record { kind = c.in-Some-parts.kind.now; message = c.in-Some-parts.message.now } in
    let says : SaysFlash c.in-Some.cookie.now.value flashed = subst (λ t. SaysFlash t flashed) c.value.ensures c.in-Some-parts.ensures in
    (Some flashed, flash_there c.args.jar.now c.in-Some.cookie.now (Some flashed) c.in-Some.ensures says, search rules)
