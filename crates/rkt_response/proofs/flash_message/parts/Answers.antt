use Rattle.std.proofs.Common.{◌≡◌, None, Some, rules, arith, lit<, sym, ◌∙◌}
use Rattle.std.proofs.lemmas.Bool.{false≢true}
use Rattle.std.proofs.lemmas.Str.Pattern.{split_once_first}
use Rattle.rkt_response.proofs.FlashLemmas.{CutAt, cut_says, says_cut, says_number, spelled_parses}
use Rattle.rkt_response.proofs.flash_message.parts.Goals as goal

pub returns-in_err-number : goal.returns-in_err-number
returns-in_err-number c =
    let none : c.from_residual.result ≡ None = search rules in
    let nowhere = split_once_first 58 c.args.text.now None c.in_err-number.ensures.cases (lit< tt) in
    rw none (λ flashed says. let there = (says_cut c.args.text.now flashed says).there in omega (arith, there, nowhere))

pub returns-in_err-length : goal.returns-in_err-length
returns-in_err-length c =
    let none : c.from_residual-in_err-length.result ≡ None = search rules in
    let at = split_once_first 58 c.args.text.now (Some (c.in_ok-number.number, c.in_ok-number.rest)) c.in_ok-number.ensures.cases (lit< tt) in
    let cut : CutAt c.args.text.now c.in_ok-number.number.now c.in_ok-number.rest.now = record { before = sym at.1; after = sym at.2; there = at.0 } in
    rw none (λ flashed says.
    let ok = spelled_parses _ _ c.parse.result (says_number _ _ _ flashed cut says) c.parse.ensures.value.0 in
    false≢true (c.in_err-length.ensures.variant ∙ ok))

pub returns : goal.returns
returns c =
    let at = split_once_first 58 c.args.text.now (Some (c.in_ok-number.number, c.in_ok-number.rest)) c.in_ok-number.ensures.cases (lit< tt) in
    let cut : CutAt c.args.text.now c.in_ok-number.number.now c.in_ok-number.rest.now = record { before = sym at.1; after = sym at.2; there = at.0 } in
    let pieces = c.split_at_checked.ensures in
    cut_says c.args.text.now c.in_ok-number.number.now c.in_ok-number.rest.now c.in_ok-length.length c.parse.result c.split_at_checked.result cut
    c.parse.ensures.value.0 c.in_ok-length.ensures.value pieces.variant pieces.front pieces.back
