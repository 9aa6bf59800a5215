use Rattle.std.proofs.Common.{Some, subst}
use Rattle.std.proofs.lemmas.Result.{on_ok_weaker}
use Rattle.rkt_cookie.specs.Reading.{Reads}
use Rattle.rkt_request.specs.Seen.{ReadAs}
use Rattle.rkt_request.proofs.AskedLemmas.{AddsCookies-one}
use Rattle.rkt_request.proofs.asked.add_cookie.Goals as goal

pub returns-in-Some : goal.returns-in-Some
returns-in-Some c =
    let read = subst (λ found. ReadAs Reads c.args.piece.now found) c.in-Some.is c.in_ok-cookie.ensures in
    on_ok_weaker c.add_original.result (λ is. AddsCookies-one c.args.piece.now (Some c.in-Some.cookie) _ _ read is) c.add_original.ensures.ok
