use Rattle.std.proofs.Common.{◌∙◌, ◌++◌, ◌<◌, ◌≤◌, ◌+◌, ℕ, ap, sym, subst}
use Rattle.rkt_board.proofs.Core.{closes_last, ends_each}
use Rattle.rkt_board.proofs.Finished.{all_admitted, has_entry, trip_seen, handed_back}
use Rattle.rkt_board.specs.Closed.{AllAdmitted, HasCausedEntry}
use Rattle.rkt_board.specs.Events.{admitted, lift_calls, trip_of, IsClosed, EachEndsOnce}
use Rattle.rkt_board.specs.Records.{events}
use Rattle.rkt_board.proofs.closing.finish.Goals as goal

pub returns-clause-closed : goal.returns-clause-closed
returns-clause-closed g c =
    let ms = c.args.board.log.records.items in
    let same = c.from_vec.ensures ∙ (c.moved.ensures ∙ ap (λ h. h ++ events ms) c.requires.keeps.counted.unused) in
    subst (λ es. IsClosed es) (sym same) (closes_last (events ms) c.requires.keeps.legal.ordered c.requires.closed)

pub returns-clause-ends : goal.returns-clause-ends
returns-clause-ends g c =
    let ms = c.args.board.log.records.items in
    let same = c.from_vec.ensures ∙ (c.moved.ensures ∙ ap (λ h. h ++ events ms) c.requires.keeps.counted.unused) in
    subst (λ es. EachEndsOnce es) (sym same) (ends_each (events ms) c.requires.keeps.legal.ordered c.requires.closed)

pub returns-clause-requests : goal.returns-clause-requests
returns-clause-requests g c =
    let ms = c.args.board.log.records.items in
    let same = c.from_vec.ensures ∙ (c.moved.ensures ∙ ap (λ h. h ++ events ms) c.requires.keeps.counted.unused) in
    rw c.into_inner.ensures (subst (λ es. AllAdmitted (g.L.Listener.meaning c.args.board.outside.listener).given es) (sym same) (all_admitted g.L.Link.Link.meaning _ _ ms c.requires.keeps.holds.told c.requires.fresh))

pub returns-clause-entries : goal.returns-clause-entries
returns-clause-entries g c k less =
    let ms = c.args.board.log.records.items in
    let same = c.from_vec.ensures ∙ (c.moved.ensures ∙ ap (λ h. h ++ events ms) c.requires.keeps.counted.unused) in
    let cause = g.P.Served.cause c.args.board.name.served (g.C.Clock.meaning c.args.board.name.clock.value).window in
    rw c.into_inner.ensures (subst (λ es. HasCausedEntry g.L.Link.Link.meaning cause (g.L.Listener.meaning c.args.board.outside.listener).given es k) (sym same)
    (has_entry g.L.Link.Link.meaning cause _ _ ms k c.requires.keeps.legal c.requires.closed c.requires.keeps.holds.told c.requires.fresh (subst (λ es. k < admitted es) same less)))

pub returns-clause-lifted : goal.returns-clause-lifted
returns-clause-lifted g c =
    let ms = c.args.board.log.records.items in
    let same = c.from_vec.ensures ∙ (c.moved.ensures ∙ ap (λ h. h ++ events ms) c.requires.keeps.counted.unused) in
    ap lift_calls same ∙ c.requires.keeps.lifted

pub returns-clause-looked : goal.returns-clause-looked
returns-clause-looked g c =
    let ms = c.args.board.log.records.items in
    let same = c.from_vec.ensures ∙ (c.moved.ensures ∙ ap (λ h. h ++ events ms) c.requires.keeps.counted.unused) in
    subst (λ (n : ℕ). c.args.board.name.handle.value.looked + n ≤ c.args.board.outside.handle.looked) (sym (ap admitted same)) c.requires.keeps.holds.looked

pub returns-clause-word : goal.returns-clause-word
returns-clause-word g c trip is =
    let ms = c.args.board.log.records.items in
    let same = c.from_vec.ensures ∙ (c.moved.ensures ∙ ap (λ h. h ++ events ms) c.requires.keeps.counted.unused) in
    trip_seen g.L.Link.Link.meaning g.L.Listener.meaning g.C.Clock.meaning c.args.board.name c.args.board.outside ms trip c.requires.keeps.holds (sym (ap trip_of same) ∙ is)

pub returns-clause-handle : goal.returns-clause-handle
returns-clause-handle g c = handed_back g.L.Link.Link.meaning g.L.Listener.meaning g.C.Clock.meaning c.args.board.name c.args.board.outside c.args.board.log.records.items c.requires.keeps.holds

pub returns-clause-settled : goal.returns-clause-settled
returns-clause-settled g c = rw c.into_inner.ensures c.requires.keeps.holds.settled

pub returns-clause-sound : goal.returns-clause-sound
returns-clause-sound g c = rw c.into_inner.ensures c.requires.keeps.holds.sound

pub returns-clause-ended : goal.returns-clause-ended
returns-clause-ended g c = rw c.into_inner.ensures c.requires.keeps.holds.ended

pub returns-clause-goes_on : goal.returns-clause-goes_on
returns-clause-goes_on g c = rw c.into_inner.ensures c.requires.keeps.holds.goes_on

pub returns-clause-offers : goal.returns-clause-offers
returns-clause-offers g c = rw c.into_inner.ensures c.requires.keeps.holds.offers
