use Rattle.std.proofs.Common.{◌≡◌, ◌∙◌, ◌+◌, ◌++◌, ◌∷◌, [], take, ap, sym, subst}
use Rattle.std.proofs.lemmas.List.{take_more}
use Rattle.rkt_board.specs.Events.{admitted}
use Rattle.rkt_board.proofs.Entries.{Noted, places, nones, noted_none, noted_more}
use Rattle.rkt_board.proofs.history.HistoryOf.entries.Goals as goal

pub loop-event-init : goal.loop-event-init
loop-event-init g c = noted_none (places c.in_ok-entries.entries.items) (admitted c.args.self.now.events) (c.in_ok-entries.ensures ∙ ap nones c.admitted.ensures.count)

pub loop-event-preserved : goal.loop-event-preserved
loop-event-preserved g c =
    let items = c.as_slice-event-items.result.now in
    let at = c.loop-event.event-index in
    let count = admitted c.args.self.now.events in
    let more : take (at + 1) items ≡ take at items ++ c.event-item.result ∷ [] = take_more items at c.event-item.result c.loop-event-test.true ∙ ap (λ e. take at items ++ e ∷ []) (sym c.event-item.is) in
    subst (λ es. Noted (places c.note.new.entries.items) count es) (sym more)
    (subst (λ ps. Noted ps count (take at items ++ c.event-item.result ∷ [])) (sym c.note.ensures) (noted_more (places c.loop-event.entries.items) count (take at items) c.event-item.result c.loop-event.invariant))
