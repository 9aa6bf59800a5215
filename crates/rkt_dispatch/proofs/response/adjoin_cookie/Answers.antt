use Rattle.std.proofs.Common.{◌∙◌}
use Rattle.rkt_dispatch.proofs.response.adjoin_cookie.Goals as goal

pub returns : goal.returns
returns g c = rw (c.as_str.ensures.value ∙ c.in_ok-text.ensures.printed) at c.adjoin_raw_header.ensures.ok
