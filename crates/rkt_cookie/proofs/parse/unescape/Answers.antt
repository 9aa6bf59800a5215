use Rattle.std.proofs.Common.{◌≡◌, string_bytes, ap, ◌∙◌}
use Rattle.std.proofs.lemmas.Str.{IsUtf8-string_bytes}
use Rattle.rkt_cookie.proofs.parse.unescape.Goals as goal

pub returns-in-Ok-clause-accepted : goal.returns-in-Ok-clause-accepted
returns-in-Ok-clause-accepted c =
    let read : string_bytes c.in-Ok.text ≡ c.append_to.new.out.items = ap (λ v. v.items) c.in-Ok.ensures.ok in (
      rw c.from_string.ensures (IsUtf8-string_bytes c.in-Ok.text),
      c.from_string.ensures ∙ read
          ∙ rw (c.in_ok-append_to.ensures.ok, c.new-bytes.ensures.items, c.percent_decode.ensures.bytes, c.as_bytes.ensures.value),
    )
