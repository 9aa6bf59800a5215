use Rattle.std.proofs.Common.{unwrap_or, ap, ◌∙◌, subst, sym, refl, codes}
use Rattle.rkt_http.specs.Headers.{values_of}
use Rattle.rkt_http.specs.Method.{method_of}
use Rattle.rkt_uri.specs.Origin.{Spells}
use Rattle.rkt_http.specs.declared.method.Method.TheVariants.{Get}
use Rattle.rkt_uri.specs.declared.origin_place.Profile.TheVariants.{Request as OfRequest}
use Rattle.rkt_request.specs.Incoming.{IsJar, faults_of, headers_of}
use Rattle.rkt_uri.specs.Host.{SpellsHost}
use Rattle.rkt_request.specs.Seen.{MaybeReadAs, ReadAs, first_value}
use Rattle.rkt_request.proofs.request.Request.from_incoming.Goals as goal

pub returns : goal.returns
returns g c =
    let method = c.from_wire-method.ensures ∙ ap method_of c.as_str.ensures in
    let read = c.in_ok-uri.ensures in
    let headers = c.in_ok-headers.ensures.headers ∙ ap headers_of c.as_slice.ensures in
    rw c.of_parts-request.ensures
    (record {
      method = c.unwrap_or-method.ensures ∙ ap (λ found. unwrap_or found Get) method;
      target = read.0;
      target_read = subst (λ text. ReadAs (Spells OfRequest) text read.0) c.as_str-2.ensures read.1;
      uri = read.2;
      faults_are = read.3 ∙ ap (λ found. faults_of found read.0) method;
      headers = headers;
      host = subst (λ headers. MaybeReadAs SpellsHost (first_value headers (codes "Host")) c.in_ok-headers.host) (sym c.in_ok-headers.ensures.headers) c.in_ok-headers.ensures.host;
      remote = refl;
      route = refl;
      config_lent = refl;
      managed_lent = refl;
      cookies = subst (λ headers. IsJar (values_of headers (codes "Cookie")) c.in_ok-headers.jar) (sym c.in_ok-headers.ensures.headers) c.in_ok-headers.ensures.cookies;
    })
