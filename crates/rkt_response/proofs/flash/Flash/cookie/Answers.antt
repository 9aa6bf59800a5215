use Rattle.std.proofs.Common.{◌≡◌, ◌<◌, All, Some, rules, IsUtf8, sym, ap, ◌∙◌, subst}
use Rattle.std.proofs.lemmas.Result.{IfOk-weaker}
use Rattle.rkt_cookie.specs.Cookie.{bare}
use Rattle.rkt_cookie.specs.Encoded.{encoded_text}
use Rattle.rkt_cookie.specs.Jar.{addition}
use Rattle.rkt_response.specs.Flash.{ReadsFlash, SaysFlash, flash_name, flash_text}
use Rattle.rkt_response.proofs.FlashReading.{pair_alone, sent_reads}
use Rattle.rkt_response.proofs.flash.Flash.cookie.Goals as goal

pub returns-clause-read_again : goal.returns-clause-read_again
returns-clause-read_again g c =
    let flashed = c.args.self.now.flashed in
    let text : c.as_str.result.now ≡ flash_text flashed = search rules in
    let says : SaysFlash (flash_text flashed) flashed = subst (λ t. SaysFlash t flashed) c.in_ok-text.ensures.value c.in_ok-text.ensures.says in
    let reads = sent_reads flashed says (subst IsUtf8 text c.as_str.utf8) (subst (λ t. All (λ b. b < 256) t) text c.cookie_of.ensures.bytes) in
    IfOk-weaker c.cookie_of.result _ _
    (λ cookie is. subst (λ k. ReadsFlash (encoded_text (addition k).cookie) flashed) (ap (λ t. record (bare flash_name t) { max_age = Some 300 }) (sym text) ∙ sym is) reads)
    c.cookie_of.ensures.value

pub returns-clause-handed_back : goal.returns-clause-handed_back
returns-clause-handed_back g c =
    IfOk-weaker c.cookie_of.result _ _
    (λ cookie reads. pair_alone (encoded_text (addition cookie).cookie) c.args.self.now.flashed reads)
    (returns-clause-read_again g c)
