use Rattle.std.proofs.Common.{◌≡◌, ℕ, List, IsUtf8, string_bytes, ap, ◌∙◌, subst}
use Rattle.percent_encoding.specs.Percent.{percent_decode}
use Rattle.rkt_cookie.specs.Encoded.{escaped}
use Rattle.rkt_cookie.proofs.ReadBackLemmas.{IsSound, read_again}
use Rattle.rkt_cookie.proofs.EncodeLemmas.{encoded_by_pieces}
use Rattle.rkt_cookie.proofs.cookie.Cookie.push_to.Goals as goal

pub returns-clause-printed : goal.returns-clause-printed
returns-clause-printed c =
    let fields = c.self.inside in
    rw (
      c.in_ok-push_expires.ensures,
      c.in_ok-push_max_age.ensures.added,
      c.in_ok-push_domain.ensures,
      c.in_ok-push_path.ensures,
      c.in_ok-push_secure.ensures,
      c.in_ok-push_same_site.ensures,
      c.in_ok-push_http_only.ensures,
      c.in_ok-push_escaped-2.ensures.added,
      c.in_ok-push_str.ensures.bytes,
      c.in_ok-push_escaped.ensures.added,
      c.value.ensures,
      c.name.ensures,
      ← c.self.view_is,
    )
    (encoded_by_pieces (string_bytes c.args.text.now) (record {
      name = fields.name;
      value = fields.value;
      http_only = fields.http_only;
      same_site = fields.same_site;
      secure = fields.secure;
      path = fields.path;
      domain = fields.domain;
      max_age = fields.max_age;
      expires = fields.expires;
    }))

pub returns-clause-read_again : goal.returns-clause-read_again
returns-clause-read_again c = λ printable.
    let cookie = c.args.self.now in
    let sound : (part : List ℕ) → IsUtf8 part → percent_decode (escaped part) ≡ part → IsSound part = λ part text back. record { text = text; back = back } in
    read_again cookie printable
    (subst IsSound c.name.ensures (sound c.name.result.now c.name.utf8 c.push_escaped.ensures.undone))
    (subst IsSound c.value.ensures (sound c.value.result.now c.value.utf8 c.push_escaped-2.ensures.undone))
    (λ n is. c.push_max_age.ensures.fits n (ap (λ p. p.max_age) c.self.view_is ∙ is))
