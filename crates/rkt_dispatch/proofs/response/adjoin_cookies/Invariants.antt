use Rattle.std.proofs.Common.{◌≡◌, take}
use Rattle.rkt_dispatch.specs.Finalizing.{with_cookies}
use Rattle.rkt_dispatch.proofs.response.adjoin_cookies.Given as goal

-- the first cookies stand in the response
abbrev pub invariant-loop-cookie : goal.invariant-loop-cookie
invariant-loop-cookie g l = l.response ≡ with_cookies l.fn.response (take l.cookie-index l.cookies)
