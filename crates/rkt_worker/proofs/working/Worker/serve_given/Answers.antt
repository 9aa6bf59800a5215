use Rattle.std.proofs.Common.{ℕ, Option, refl, subst, sym, ap, ◌∙◌, arith}
use Rattle.rkt_link.proofs.Telling.{tells_then}
use Rattle.rkt_link.specs.Clock.{IsWithin}
use Rattle.rkt_board.proofs.Tripping.{stays_open}
use Rattle.rkt_board.specs.Board.{IsCutWithin}
use Rattle.rkt_board.specs.Events.{trip_of}
use Rattle.rkt_board.specs.Records.{events}
use Rattle.rkt_board.specs.Turns.{IsOpen}
use Rattle.rkt_worker.proofs.Boards.{left_tripped, saw_trip, still_back, trip_there, trips_same, unseen_back, until_later, wire_back}
use Rattle.rkt_worker.proofs.Cutting.{caused_wider, due_behind, cut_within, looked_adds, trips_stay, word_still}
use Rattle.rkt_worker.proofs.Meanwhile.{still_unclosed, trips_then}
use Rattle.rkt_worker.specs.Causes.{Caused, IsDueBehind}
use Rattle.rkt_worker.specs.Gates.{word_in}
use Rattle.rkt_worker.specs.Looking.{watched_by}
use Rattle.rkt_worker.specs.Serving.{serving}
use Rattle.rkt_worker.proofs.working.Worker.serve_given.Goals as goal

pub serve_lent-entry-requires-clause-keeps : goal.serve_lent-entry-requires-clause-keeps
serve_lent-entry-requires-clause-keeps g c = record { keeps = c.requires.keeps; unclosed = c.requires.unclosed }

pub serve_lent-entry-requires-clause-delays : goal.serve_lent-entry-requires-clause-delays
serve_lent-entry-requires-clause-delays g c = (c.requires.lent.grace, c.requires.lent.mercy)

pub serve_lent-entry-requires-clause-active : goal.serve_lent-entry-requires-clause-active
serve_lent-entry-requires-clause-active g c = c.requires.given.active

pub return_tripped-back-requires-clause-wire : goal.return_tripped-back-requires-clause-wire
return_tripped-back-requires-clause-wire g c = wire_back c.serve_lent-entry.result.1 c.args.shutdown c.serve_lent-entry.new.gates.name.handle.value c.serve_lent-entry.ensures.handle (c.requires.wire ∙ sym (ap (λ n. n.handle.value.wire) c.serve_lent-entry.ensures.leads.name))

pub return_tripped-back-requires-clause-unclosed : goal.return_tripped-back-requires-clause-unclosed
return_tripped-back-requires-clause-unclosed g c = still_unclosed 0 c.args.board.now.log.records.items c.serve_lent-entry.new.gates.log.records.items (looked_adds c.args.board.now c.serve_lent-entry.new.gates c.serve_lent-entry.ensures.leads c.serve_lent-entry.ensures.keeps) c.requires.unclosed

pub end-requires-clause-opened : goal.end-requires-clause-opened
end-requires-clause-opened g c =
    let trips = trips_then 0 c.args.board.now.log.records.items c.serve_lent-entry.new.gates.log.records.items c.return_tripped-back.new.board.log.records.items c.return_tripped-back.ensures.keeps.legal.ordered (looked_adds c.args.board.now c.serve_lent-entry.new.gates c.serve_lent-entry.ensures.leads c.serve_lent-entry.ensures.keeps) c.return_tripped-back.ensures.adds in
    let stays = stays_open g.L.Link.Link.meaning c.args.board.now.log.records.items c.return_tripped-back.new.board.log.records.items 0 trips in
    subst (λ ask. IsOpen g.L.Link.Link.meaning c.return_tripped-back.new.board.log.records.items 0 c.args.number ask) (sym c.serve_lent-entry.ensures.asked) (stays.opened 0 c.args.number _ c.requires.given.opened)

pub end-requires-clause-ran : goal.end-requires-clause-ran
end-requires-clause-ran g c run is =
    let trips = trips_then 0 c.args.board.now.log.records.items c.serve_lent-entry.new.gates.log.records.items c.return_tripped-back.new.board.log.records.items c.return_tripped-back.ensures.keeps.legal.ordered (looked_adds c.args.board.now c.serve_lent-entry.new.gates c.serve_lent-entry.ensures.leads c.serve_lent-entry.ensures.keeps) c.return_tripped-back.ensures.adds in
    let stays = stays_open g.L.Link.Link.meaning c.args.board.now.log.records.items c.return_tripped-back.new.board.log.records.items 0 trips in
    let timed = c.serve_lent-entry.ensures.moment run is in (
      stays.since c.args.number run.moment (until_later c.args.number _ run.moment (events c.args.board.now.log.records.items) timed.from c.requires.given.since),
      omega (arith, timed.to, c.return_tripped-back.ensures.clock.rises),
      subst (λ n. IsWithin (g.C.Clock.meaning n.clock.value).window run.moment) (sym (c.return_tripped-back.ensures.name ∙ c.serve_lent-entry.ensures.leads.name))
          (subst (λ (w : Option (ℕ × ℕ)). IsWithin w run.moment) c.requires.keeps.holds.clock.window timed.within),
    )

pub end-requires-clause-cut : goal.end-requires-clause-cut
end-requires-clause-cut g c =
    let served = c.serve_lent-entry.ensures in
    subst (λ n. IsCutWithin (g.C.Clock.meaning n.clock.value).window c.serve_lent-entry.result.0.end) (sym c.return_tripped-back.ensures.name)
    (subst (λ (w : Option (ℕ × ℕ)). IsCutWithin w c.serve_lent-entry.result.0.end) served.keeps.keeps.holds.clock.window (cut_within (watched_by g.C.Clock.meaning c.serve_lent-entry.new.gates) c.serve_lent-entry.result.0.end served.cut))

pub end-requires-clause-caused : goal.end-requires-clause-caused
end-requires-clause-caused g c moment late =
    let served = c.serve_lent-entry.ensures in
    let mid = c.serve_lent-entry.new.gates.log.records.items in
    let last = c.return_tripped-back.new.board.log.records.items in
    let serves = λ (w : Option (ℕ × ℕ)). serving g.A-Fairing-Requests-RequestCallback.calling g.A.Fairing.Responses.ResponseCallback.calling g.A-Handler-Handler.calling g.A.Catch.CatchHandler.calling g.A.Source.Source.meaning g.A.Stream.Source.meaning g.L.Link.Link.meaning w in
    let seen : Option ℕ = word_in (trip_of (events last)) in (
      subst (λ n. Caused (serves (g.C.Clock.meaning n.clock.value).window) n.served.tables.value seen c.serve_lent-entry.result.0) (sym (c.return_tripped-back.ensures.name ∙ served.leads.name))
          (subst (λ tables. Caused (serves (g.C.Clock.meaning c.args.board.now.name.clock.value).window) tables seen c.serve_lent-entry.result.0) (sym c.requires.lent.tables)
          (subst (λ (w : Option (ℕ × ℕ)). Caused (serves w) c.args.self.now.tables.now seen c.serve_lent-entry.result.0) c.requires.keeps.holds.clock.window
          (caused_wider (serves (g.C.Clock.meaning c.args.board.now.outside.clock).window) c.args.self.now.tables.now (word_in (trip_of (events mid))) seen (word_still 0 mid last c.return_tripped-back.ensures.adds) c.serve_lent-entry.result.0 c.serve_lent-entry.result.0.end
          (served.caused c.requires.given.fresh)))),
      subst (λ n. IsDueBehind n.served.tables.value (events last) moment c.serve_lent-entry.result.0.end) (sym (c.return_tripped-back.ensures.name ∙ served.leads.name))
          (subst (λ tables. IsDueBehind tables (events last) moment c.serve_lent-entry.result.0.end) (sym c.requires.lent.tables)
          (due_behind c.args.self.now.tables.now (watched_by g.C.Clock.meaning c.serve_lent-entry.new.gates) (events last) moment c.serve_lent-entry.result.0.end (trips_stay 0 mid last c.return_tripped-back.ensures.adds) (omega (arith, late, c.return_tripped-back.ensures.clock.rises)) served.cut served.late)),
      λ run is. saw_trip c.return_tripped-back.result c.serve_lent-entry.result.1 (events last) run.calls c.return_tripped-back.ensures.unseen c.return_tripped-back.ensures.trip (served.words run is),
    )

pub returns : goal.returns
returns g c =
    let served = c.serve_lent-entry.ensures in
    let noted = c.return_tripped-back.ensures in
    let ended = c.end.ensures in
    let trips = trips_then 0 c.args.board.now.log.records.items c.serve_lent-entry.new.gates.log.records.items c.return_tripped-back.new.board.log.records.items noted.keeps.legal.ordered (looked_adds c.args.board.now c.serve_lent-entry.new.gates served.leads served.keeps) noted.adds in
    record {
      name = ended.name ∙ (noted.name ∙ served.leads.name);
      adds = (c.serve_lent-entry.result.0, ended.adds.0, c.return_tripped-back.new.board.log.records.items, trips, ended.adds.1);
      handle = still_back c.return_tripped-back.result c.serve_lent-entry.result.1 c.args.shutdown noted.unseen served.handle;
      unseen = unseen_back c.return_tripped-back.result c.serve_lent-entry.result.1 noted.unseen;
      left = λ none. trips_same c.return_tripped-back.new.board.log.records.items c.end.new.board.log.records.items _ refl ended.adds.1
          ∙ left_tripped c.return_tripped-back.result c.serve_lent-entry.result.1 c.serve_lent-entry.new.gates.log.records.items c.return_tripped-back.new.board.log.records.items none noted.trip (λ left. trip_there (events c.serve_lent-entry.new.gates.log.records.items) (served.left left)) noted.adds;
      clock = tells_then _ _ _ served.leads.clock (tells_then _ _ _ noted.clock ended.clock);
      keeps = ended.keeps;
    }
