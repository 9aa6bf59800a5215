use Rattle.rkt_cookie.proofs.JarDelta.{IsWalked}
use Rattle.rkt_cookie.proofs.jar.CookieJar.delta.Given as goal

abbrev pub invariant-loop-change : goal.invariant-loop-change
invariant-loop-change l = IsWalked l.self.originals l.moment l.yielded l.cookies.items l.seen.keys
