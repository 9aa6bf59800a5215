use Rattle.std.proofs.Common.{◌≡◌, ◌<◌, ◌^◌, length, string_bytes, IsUtf8, rules, arith, sym, ap, ◌∙◌, subst}
use Rattle.rkt_response.specs.Flash.{SaysFlash, flash_text}
use Rattle.rkt_response.proofs.FlashLemmas.{text_says}
use Rattle.rkt_response.proofs.flash.Flash.text.Goals as goal

pub returns-clause-says : goal.returns-clause-says
returns-clause-says g c =
    let flashed = c.args.self.now.flashed in
    let text : string_bytes c.push_str-3.new.self ≡ flash_text flashed = search rules in
    let same = ap (λ f. length f.flashed.kind) c.self.view_is in
    let small : length flashed.kind < 2 ^ 64 = omega (arith, c.len.type_inv, c.len.ensures, same) in
    let utf8 : IsUtf8 flashed.message = subst IsUtf8 (c.as_str-2.ensures ∙ ap (λ f. f.flashed.message) c.self.view_is) c.as_str-2.utf8 in
    subst (λ t. SaysFlash t flashed) (sym text) (text_says flashed small utf8)
