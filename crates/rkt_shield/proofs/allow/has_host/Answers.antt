use Rattle.std.proofs.Common.{◌∙◌, None, Some, sym, subst, ap}
use Rattle.std.specs.Option.{option_copied}
use Rattle.rkt_uri.specs.Absolute.{IsAbsolute}
use Rattle.rkt_shield.proofs.Hosts.{Tells, has_host, has_none, not_empty}
use Rattle.rkt_shield.proofs.allow.has_host.Goals as goal

pub returns-in-Some : goal.returns-in-Some
returns-in-Some c =
    let text = c.args.uri.now in
    let host = c.in-Some.host.now in
    let is : IsAbsolute text = subst IsAbsolute c.as_str-text.ensures.text c.as_str-text.ensures.absolute in
    let tells : Tells text (Some host) = λ uri spells. sym (ap option_copied c.in-Some.is) ∙ c.host.ensures uri spells in
    let some = not_empty host c.is_empty.result c.is_empty.ensures in
    let has = has_host text host is tells in
    (λ t. has.0 (some.0 t), λ h. some.1 (has.1 h))

pub returns-in-None : goal.returns-in-None
returns-in-None c =
    let text = c.args.uri.now in
    let is : IsAbsolute text = subst IsAbsolute c.as_str-text.ensures.text c.as_str-text.ensures.absolute in
    let tells : Tells text None = λ uri spells. sym (ap option_copied c.in-None.is) ∙ c.host.ensures uri spells in
    (λ t. cc, λ h. absurd (has_none text is tells h))
