use Rattle.std.proofs.Common.{◌∙◌, sym, rules, arith}
use Rattle.rkt_board.proofs.Keeping.{keeps_admit, keeps_room, with_book, given_now, pushed}
use Rattle.rkt_board.proofs.turns.admit.Goals as goal

pub returns-in-Ready-Given-clause-turned : goal.returns-in-Ready-Given-clause-turned
returns-in-Ready-Given-clause-turned g c = (c.of.result, c.of.ensures ∙ c.kept.ensures, pushed _ _ _ _ c.push_reserved.ensures.items c.make_room.ensures.same.records)

pub returns-in-Ready-Given-clause-given : goal.returns-in-Ready-Given-clause-given
returns-in-Ready-Given-clause-given g c =
    let after = keeps_room _ _ _ _ c.args.board.now c.make_room.new.log c.requires.keeps c.make_room.ensures.same in (
      c.requires.moment.0,
      given_now _ _ _ _ (with_book c.args.board.now c.make_room.new.log) c.push_reserved.new.self c.args.by c.args.moment _ c.of.result c.in-Ready-Given.link after
          c.push_reserved.ensures.items (c.of.ensures ∙ c.kept.ensures) c.requires.unseen (omega (arith, c.requires.moment.0)) (rw c.in-Ready-Given.field-0-is at c.in-Ready-Given.ensures.fresh) (rw c.in-Ready-Given.field-0-is at c.in-Ready-Given.ensures.active),
    )

pub returns-in-Ready-Given-clause-keeps : goal.returns-in-Ready-Given-clause-keeps
returns-in-Ready-Given-clause-keeps g c =
    let after = keeps_room _ _ _ _ c.args.board.now c.make_room.new.log c.requires.keeps c.make_room.ensures.same in
    let gives = rw c.in-Ready-Given.field-0-is at c.in-Ready-Given.ensures.given in
    let ends = rw c.in-Ready-Given.field-0-is at c.in-Ready-Given.ensures.ended in
    keeps_admit _ _ _ _ (with_book c.args.board.now c.make_room.new.log) c.push_reserved.new.self c.poll_accept.new.self c.in-Some.next c.args.by c.args.moment c.of.result after
    c.push_reserved.ensures.items (search rules) (search rules) (search rules) c.requires.unseen (search rules) (search rules) (search rules)
    (g.met.P.Served.free.admits _ _ _ _ _ _) c.requires.moment.0 c.requires.moment.1 (rw (c.of.ensures, c.kept.ensures) gives) c.poll_accept.ensures.settled
    (rw c.in-Ready-Given.field-0-is at c.in-Ready-Given.ensures.faults) (ends.1 ∙ sym ends.0)
