use Rattle.std.proofs.Common.{ℕ, Option, IsSome, is_some, ap, refl, sym, subst, ◌∙◌}
use Rattle.std.specs.List.{All}
use Rattle.rkt_board.specs.declared.history.EntryOf.{EntryOf}
use Rattle.rkt_link.specs.Clock.{IsAmid}
use Rattle.rkt_link.specs.Link.{LinkMeaning}
use Rattle.rkt_routing.specs.Backs.{Sees}
use Rattle.rkt_turn.specs.HandsBackLaws.{hands_back_same}
use Rattle.rkt_worker.proofs.Cutting.{amid_later, some_word}
use Rattle.rkt_worker.proofs.Outcomes.{for_none, not_abandoned, some_none}
use Rattle.rkt_worker.proofs.Pieces.{abandoned_unsent, starved_unsent}
use Rattle.rkt_worker.specs.Gates.{told, word_in}
use Rattle.rkt_worker.specs.Serving.{serving}
use Rattle.rkt_worker.proofs.working.serve.Goals as goal

pub take_source-requires-clause-untripped : goal.take_source-requires-clause-untripped
take_source-requires-clause-untripped g c = ap (λ gate. gate.tripped) c.gate_of-gate.ensures

pub returns-in_default : goal.returns-in_default
returns-in_default g c =
    let serves = λ (w : Option (ℕ × ℕ)). serving g.A-Fairing-Requests-RequestCallback.calling g.A.Fairing.Responses.ResponseCallback.calling g.A-Handler-Handler.calling g.A.Catch.CatchHandler.calling g.A.Source.Source.meaning g.A.Stream.Source.meaning g.K.Link.meaning w in
    let entry = c.unanswered.ensures in
    let run = ap (λ (e : EntryOf _ _ _). e.run) entry in
    record {
      keeps = c.requires.keeps;
      leads = g.met.G.Gates.stays c.args.gates.now;
      asked = rw entry (ap (λ (m : LinkMeaning). m.asked) c.take_source.ensures.takes.link);
      caused = λ fresh.
          starved_unsent (serves (g.G.Gates.watched c.args.gates.now).window) c.args.tables.now _ c.unanswered.result c.take_source.new.io c.take_source.ensures.active
          (λ held there. fresh.none_held held (sym (ap (λ (m : LinkMeaning). m.held) c.take_source.ensures.takes.link) ∙ there)) (ap (λ (m : LinkMeaning). m.faults) c.take_source.ensures.takes.link ∙ fresh.no_fault) entry;
      cut = rw entry tt;
      moment = for_none _ c.unanswered.result.run run;
      late = λ is. absurd (not_abandoned c.unanswered.result.end (ap (λ (e : EntryOf _ _ _). e.end) entry) is);
      words = for_none _ c.unanswered.result.run run;
      handle = hands_back_same _;
      left = λ none. absurd (cc none);
    }

pub returns-in_default-ended : goal.returns-in_default-ended
returns-in_default-ended g c =
    let serves = λ (w : Option (ℕ × ℕ)). serving g.A-Fairing-Requests-RequestCallback.calling g.A.Fairing.Responses.ResponseCallback.calling g.A-Handler-Handler.calling g.A.Catch.CatchHandler.calling g.A.Source.Source.meaning g.A.Stream.Source.meaning g.K.Link.meaning w in
    let ran = c.run_exchange-ended.ensures in
    let late = c.in_default-ended.ensures.late refl in
    let entry = c.unanswered-in_default-ended.ensures in
    let run = ap (λ (e : EntryOf _ _ _). e.run) entry in
    record {
      keeps = ran.keeps;
      leads = ran.leads;
      asked = rw entry (ap (λ (m : LinkMeaning). m.asked) c.in-Some.ensures.takes.link);
      caused = λ fresh.
          abandoned_unsent (serves (g.G.Gates.watched c.args.gates.now).window) c.args.tables.now _ c.unanswered-in_default-ended.result c.take_source.new.io c.take_source.ensures.active
          (λ held there. fresh.none_held held (sym (ap (λ (m : LinkMeaning). m.held) c.in-Some.ensures.takes.link) ∙ there)) (ap (λ (m : LinkMeaning). m.faults) c.in-Some.ensures.takes.link ∙ fresh.no_fault) entry
          (subst IsSome (sym (ap word_in late.1)) (some_word late.0)) (c.in_default-ended.ensures.waits refl);
      cut = rw entry tt;
      moment = for_none _ c.unanswered-in_default-ended.result.run run;
      late = λ is. late;
      words = for_none _ c.unanswered-in_default-ended.result.run run;
      handle = tt;
      left = λ none. subst IsSome (sym late.1) refl;
    }

pub returns-in-Finished : goal.returns-in-Finished
returns-in-Finished g c =
    let ran = c.run_exchange-ended.ensures in
    let ended = c.in-Some-ended.ensures in
    let entry = c.answer-entry.ensures in
    let taken = c.in-Some.ensures.takes in
    let asks = sym (ap (λ (m : LinkMeaning). m.asked) taken.link) in
    let holds = sym (ap (λ (m : LinkMeaning). m.held) taken.link) in
    let first = g.G.Gates.watched c.args.gates.now in
    let before = g.G.Gates.watched c.run_exchange-ended.new.gates in
    let on = g.met.G.Gates.tells _ _ ran.leads in
    let then = g.met.G.Gates.tells _ _ entry.leads in
    record {
      keeps = entry.keeps;
      leads = g.met.G.Gates.goes_on _ _ _ entry.keeps ran.leads entry.leads;
      asked = entry.asked ∙ ap (λ (m : LinkMeaning). m.asked) taken.link;
      caused = λ fresh.
          entry.caused first.window c.args.tables.now (sym c.turns_of-turns.ensures)
          (on.grace ∙ c.requires.delays.0) (λ held there. fresh.none_held held (holds ∙ there)) (ap (λ (m : LinkMeaning). m.faults) taken.link ∙ fresh.no_fault)
          (is_some (word_in before.trip)) (λ is. is) (λ asked there. rw c.in-Finished.is at (ended.lifecycle asked (c.head.ensures asked (ap (λ k. (g.K.Link.meaning k).asked) c.kept.ensures ∙ there)) taken.untouched (taken.body asked (asks ∙ there))));
      cut = entry.cut;
      moment = λ x there.
          amid_later (told first) (told before) (told (g.G.Gates.watched c.answer-entry.new.gates)) x.moment then.rises
          (subst (λ m. IsAmid (told first) (told before) m) (sym (entry.moment x there)) (rw c.in-Finished.is at ended.moment));
      late = λ is. absurd (entry.ended is);
      words = λ x there. subst (λ calls. All (Sees c.in-Finished.shutdown) calls) (sym (entry.calls x there)) (rw c.in-Finished.is at ended.words);
      handle = rw c.in-Finished.is at ended.handle;
      left = λ none. absurd (some_none c.in-Finished.shutdown none);
    }

pub returns-in-Starved : goal.returns-in-Starved
returns-in-Starved g c =
    let serves = λ (w : Option (ℕ × ℕ)). serving g.A-Fairing-Requests-RequestCallback.calling g.A.Fairing.Responses.ResponseCallback.calling g.A-Handler-Handler.calling g.A.Catch.CatchHandler.calling g.A.Source.Source.meaning g.A.Stream.Source.meaning g.K.Link.meaning w in
    let ran = c.run_exchange-ended.ensures in
    let entry = c.unanswered-in-Starved.ensures in
    let run = ap (λ (e : EntryOf _ _ _). e.run) entry in
    record {
      keeps = ran.keeps;
      leads = ran.leads;
      asked = rw entry (ap (λ (m : LinkMeaning). m.asked) c.in-Some.ensures.takes.link);
      caused = λ fresh.
          starved_unsent (serves (g.G.Gates.watched c.args.gates.now).window) c.args.tables.now _ c.unanswered-in-Starved.result c.take_source.new.io c.take_source.ensures.active
          (λ held there. fresh.none_held held (sym (ap (λ (m : LinkMeaning). m.held) c.in-Some.ensures.takes.link) ∙ there)) (ap (λ (m : LinkMeaning). m.faults) c.in-Some.ensures.takes.link ∙ fresh.no_fault) entry;
      cut = rw entry tt;
      moment = for_none _ c.unanswered-in-Starved.result.run run;
      late = λ is. absurd (not_abandoned c.unanswered-in-Starved.result.end (ap (λ (e : EntryOf _ _ _). e.end) entry) is);
      words = for_none _ c.unanswered-in-Starved.result.run run;
      handle = rw c.in-Starved.is at c.in-Some-ended.ensures.handle;
      left = λ none. absurd (some_none c.in-Starved.shutdown none);
    }
