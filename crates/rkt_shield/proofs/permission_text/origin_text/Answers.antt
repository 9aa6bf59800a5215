use Rattle.std.proofs.Common.{◌∙◌, List, ℕ, sym, subst}
use Rattle.std.proofs.lemmas.Result.{IfOk-weaker}
use Rattle.rkt_uri.specs.Absolute.{SpellsAbsolute}
use Rattle.rkt_uri.proofs.Absolutes.{says_scheme, says_host, says_port}
use Rattle.rkt_shield.specs.Allow.{quoted_origin}
use Rattle.rkt_shield.proofs.permission_text.origin_text.Goals as goal

pub returns : goal.returns
returns c =
    let text = c.args.uri.now in
    let uri = c.as_str-text.ensures.absolute.0 in
    let spells : SpellsAbsolute text uri = subst (λ (t : List ℕ). SpellsAbsolute t uri) c.as_str-text.ensures.text c.as_str-text.ensures.absolute.1 in
    IfOk-weaker c.quoted.result _ _
    (λ made e. e ∙ (λ i. quoted_origin ((c.scheme.ensures uri spells ∙ sym (says_scheme text uri spells)) i) ((c.host.ensures uri spells ∙ sym (says_host text uri spells)) i) ((c.port.ensures uri spells ∙ sym (says_port text uri spells)) i)))
    c.quoted.ensures
