-- Requests that are tried alike have the same tries.
use Rattle.std.proofs.Common.{◌≡◌, ℕ, List, Option, Some, None, ◌∙◌, ap, sym, subst}
use Rattle.std.specs.Prelude.{IsSomeAnd, slice_get}
use Rattle.rkt_http.specs.Headers.{Group}
use Rattle.rkt_http.specs.declared.method.Method.{Method}
use Rattle.rkt_media.specs.Media.{Media}
use Rattle.rkt_request.specs.Seen.{Seen}
use Rattle.rkt_route.specs.declared.route.Route.{Route}
use Rattle.rkt_router.specs.Tries.{FormatMatches, IsNextTry, IsTries, Matches, MatchesAt, TriedAlike}
use Rattle.rkt_uri.specs.Origin.{Target}

-- a request with another method, URI and headers
abbrev with_asked : {V : Type 0} → Seen V → Method → Target → List Group → Seen V
with_asked request method uri headers = record request { method = method; uri = uri; headers = headers }

alike_sym : {V : Type 0} (one other : Seen V) → TriedAlike one other → TriedAlike other one
alike_sym one other alike = record { method = sym alike.method; uri = sym alike.uri; headers = sym alike.headers }

-- routes ask for nothing else
format_asked : {V : Type 0} (format : Option Media) (one other : Seen V) → FormatMatches format (with_asked other one.method one.uri one.headers) → FormatMatches format one
format_asked None one other h = tt
format_asked (Some asked) one other h = h

asked_of : {V : Type 0} (one other : Seen V) → TriedAlike one other → with_asked other one.method one.uri one.headers ≡ other
asked_of one other alike =
    ap (λ (m : Method). with_asked other m one.uri one.headers) (sym alike.method) ∙ ap (λ (u : Target). with_asked other other.method u one.headers) (sym alike.uri)
    ∙ ap (λ (hs : List Group). with_asked other other.method other.uri hs) (sym alike.headers)

matches_alike : {H S V : Type 0} (route : Route H S) (one other : Seen V) → TriedAlike one other → Matches route other → Matches route one
matches_alike {V = V} route one other alike matching =
    let asked = subst (λ (r : Seen V). Matches route r) (sym (asked_of one other alike)) matching in
    record { method = asked.method; path = asked.path; query = asked.query; format = format_asked route.format one other asked.format }

at_alike : {H S V : Type 0} (found : Option (Route H S)) (one other : Seen V) → TriedAlike one other → IsSomeAnd found (λ route. Matches route other) → IsSomeAnd found (λ route. Matches route one)
at_alike None one other alike h = h
at_alike (Some route) one other alike h = matches_alike route one other alike h

module _ {H S V : Type 0} (routes : List (Route H S)) (one other : Seen V) (alike : TriedAlike one other) where
  to : (q : ℕ) → MatchesAt routes one q → MatchesAt routes other q
  to q h = at_alike (slice_get routes q) other one (alike_sym one other alike) h

  back : (q : ℕ) → MatchesAt routes other q → MatchesAt routes one q
  back q h = at_alike (slice_get routes q) one other alike h

  pub next_alike : (after found : Option ℕ) → IsNextTry routes one after found → IsNextTry routes other after found
  next_alike after None none = λ q matching behind. none q (back q matching) behind
  next_alike after (Some p) next = (to p next.0, next.1, λ q matching behind. next.2 q (back q matching) behind)

  pub tries_alike : (tries : List ℕ) → IsTries routes one tries → IsTries routes other tries
  tries_alike tries is = record { matching = λ q. (λ among. to q ((is.matching q).0 among), λ matching. (is.matching q).1 (back q matching)); ordered = is.ordered }
