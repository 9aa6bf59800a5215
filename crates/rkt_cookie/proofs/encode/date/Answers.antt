use Rattle.std.proofs.Common.{◌≡◌, ◌∙◌, ap, arith}
use Rattle.std.proofs.lemmas.Result.{IfOk-at_ok}
use Rattle.httpdate.specs.Date.{unix_secs}
use Rattle.httpdate.specs.Text.{imf_fixdate}
use Rattle.rkt_cookie.specs.Date.{dated}
use Rattle.rkt_cookie.proofs.DateLemmas.{date_of_is}
use Rattle.rkt_cookie.proofs.encode.date.Goals as goal

pub returns : goal.returns
returns c =
    let secs = IfOk-at_ok (λ d. unix_secs d ≡ c.min.result) c.unwrap.ensures c.from_unix_secs.ensures.value in
    ap imf_fixdate (date_of_is (dated c.args.moment) c.unwrap.result (omega arith) (secs ∙ c.min.ensures))
