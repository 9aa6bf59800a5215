use Rattle.std.proofs.Common.{◌≡◌, [], fold}
use Rattle.rkt_cookie.specs.Jar.{with_cookie}
use Rattle.rkt_cookie.proofs.jar.CookieJar.copied_originals.Given as goal

-- what the jar becomes with the cookies that are left
abbrev pub invariant-loop-cookie : goal.invariant-loop-cookie
invariant-loop-cookie l = (fold with_cookie l.copy.originals l.cookie-iterator ≡ fold with_cookie [] l.self.originals) × (l.copy.log ≡ []) × (l.copy.floor ≡ 0)
