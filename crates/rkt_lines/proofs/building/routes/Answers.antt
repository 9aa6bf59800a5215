use Rattle.rkt_lines.proofs.building.routes.Goals as goal

pub returns-clause-read : goal.returns-clause-read
returns-clause-read g c = (
  c.in_ok-route.route,
  record { mounted = c.in_ok-route.ensures.mounted; made = c.in_ok-route.ensures.made },
  c.in_ok-only.ensures,
)
