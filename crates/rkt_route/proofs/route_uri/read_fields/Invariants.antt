use Rattle.std.proofs.Common.{◌≡◌, map, filter, not, take}
use Rattle.rkt_route.specs.RouteUri.{raw_field}
use Rattle.rkt_route.proofs.route_uri.read_fields.Given as goal

-- the fields of the segments so far
abbrev pub invariant-loop-segment : goal.invariant-loop-segment
invariant-loop-segment l = l.fields ≡ map (λ s. raw_field s.value) (filter (λ s. not s.dynamic) (take l.segment-index l.segments))
