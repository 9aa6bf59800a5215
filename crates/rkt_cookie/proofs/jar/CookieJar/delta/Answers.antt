use Rattle.std.proofs.Common.{◌++◌, ◌∷◌, [], option_to_list, sym, ◌∙◌, subst}
use Rattle.std.proofs.lemmas.Bool.{not-true, not-false}
use Rattle.rkt_cookie.proofs.JarDelta.{IsWalked, walked_new, walked_old}
use Rattle.rkt_cookie.proofs.jar.CookieJar.delta.Goals as goal

pub loop-change-preserved-then-not-branch : goal.loop-change-preserved-then-not-branch
loop-change-preserved-then-not-branch c =
    let originals = c.args.self.now.originals in
    let walk = c.loop-change.yielded ++ c.in-Some.change ∷ [] in
    let step = walked_old originals c.args.moment c.loop-change.yielded c.loop-change.cookies.items c.loop-change.seen.keys c.in-Some.change c.name.result
    c.loop-change.invariant c.name.ensures (not-false _ (sym c.in_ok-insert.ensures.added ∙ c.if-not-branch.true)) in
    subst (λ names. IsWalked originals c.args.moment walk c.loop-change.cookies.items names) (sym c.in_ok-insert.ensures.keys) step

pub loop-change-preserved : goal.loop-change-preserved
loop-change-preserved c =
    let originals = c.args.self.now.originals in
    let walk = c.loop-change.yielded ++ c.in-Some.change ∷ [] in
    let step = walked_new originals c.args.moment c.loop-change.yielded c.loop-change.cookies.items c.loop-change.seen.keys c.in-Some.change c.name.result c.in_ok-cookie.cookie
    c.loop-change.invariant c.name.ensures (not-true _ (sym c.in_ok-insert.ensures.added ∙ c.if-not-branch.false)) c.in_ok-cookie.ensures in
    subst (λ cookies. IsWalked originals c.args.moment walk cookies c.insert.new.self.keys) (sym c.in_ok-push_any.ensures)
    (subst (λ names. IsWalked originals c.args.moment walk (c.loop-change.cookies.items ++ option_to_list c.in_ok-cookie.cookie) names) (sym c.in_ok-insert.ensures.keys) step)
