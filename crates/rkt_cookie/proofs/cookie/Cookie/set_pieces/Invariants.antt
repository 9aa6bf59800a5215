use Rattle.std.proofs.Common.{◌≡◌, map, fold}
use Rattle.rkt_cookie.specs.Reading.{with_piece}
use Rattle.rkt_cookie.proofs.cookie.Cookie.set_pieces.Given as goal

-- the cookie has what the pieces so far say
abbrev pub invariant-loop-piece : goal.invariant-loop-piece
invariant-loop-piece l = l.self ≡ fold with_piece l.initial.self (map (λ piece. piece.now) l.yielded)
