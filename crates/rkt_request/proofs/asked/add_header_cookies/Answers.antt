use Rattle.std.proofs.Common.{◌∷◌, [], map, ap, ◌∙◌, lit<, subst, sym}
use Rattle.std.specs.Str.{trim}
use Rattle.std.proofs.lemmas.List.{map-append}
use Rattle.std.proofs.lemmas.Simd.{map-map}
use Rattle.std.proofs.lemmas.Iterator.Consumers.{YieldsList-end}
use Rattle.std.proofs.lemmas.Iterator.Splits.{YieldsList-from_str_split}
use Rattle.rkt_request.specs.Incoming.{AddsCookies}
use Rattle.rkt_request.proofs.AskedLemmas.{AddsCookies-append}
use Rattle.rkt_request.proofs.asked.add_header_cookies.Goals as goal

pub loop-piece-preserved : goal.loop-piece-preserved
loop-piece-preserved c =
    rw map-append (AddsCookies-append c.loop-piece.invariant (subst (λ piece. AddsCookies (piece ∷ []) c.loop-piece.jar c.add_cookie.new.jar) c.trim.ensures.trim c.in_ok-add_cookie.ensures))

pub returns : goal.returns
returns c =
    let s = c.split-piece-items.ensures in
    let start = c.into_iter-piece-iterator.ensures.into_iter_gives in
    let all = YieldsList-from_str_split 59 c.args.value.now (lit< tt) (cc (s.text, start)) (cc (s.has_more, start)) (cc (s.pattern, start)) in
    let pieces = (YieldsList-end all _ _ c.loop-piece.yielded_by _ _ c.in-None.is c.next.ensures.steps).0 in
    subst (λ pieces. AddsCookies pieces c.args.jar.now c.loop-piece.jar) (sym (map-map trim (λ piece. piece.now) c.loop-piece.yielded) ∙ ap (map trim) pieces) c.loop-piece.invariant
