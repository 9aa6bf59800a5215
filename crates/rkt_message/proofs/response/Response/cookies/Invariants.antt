use Rattle.std.proofs.Common.{List, ◌++◌, codes}
use Rattle.rkt_cookie.specs.Cookie.{Parts}
use Rattle.rkt_http.specs.Headers.{values_of}
use Rattle.rkt_message.specs.Response.{ReadsCookies}
use Rattle.rkt_message.proofs.response.Response.cookies.Given as goal

-- the cookies so far, with those of the texts that are left
abbrev pub invariant-loop-text : goal.invariant-loop-text
invariant-loop-text g l = (rest : List Parts) → ReadsCookies l.text-iterator rest → ReadsCookies (values_of l.self.headers (codes "Set-Cookie")) (l.cookies.items ++ rest)
