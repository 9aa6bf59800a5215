use Rattle.std.proofs.Common.{◌≡◌, ◌∙◌, ℕ, max, ap, refl, subst, sym}
use Rattle.rkt_board.specs.declared.history.EntryOf.{EntryOf}
use Rattle.rkt_worker.proofs.Cutting.{cut_off_by, word_stays}
use Rattle.rkt_worker.proofs.Outcomes.{for_none, for_one, not_abandoned}
use Rattle.rkt_worker.proofs.Pieces.{caused_sent, starved_unsent}
use Rattle.rkt_worker.specs.Gates.{IsCutOff}
use Rattle.rkt_worker.specs.Sent.{IsSentAs}
use Rattle.rkt_worker.specs.Serving.{serving}
use Rattle.rkt_worker.proofs.working.answer.Goals as goal

pub returns : goal.returns
returns g c =
    let sent = c.send-response.ensures in
    let old = g.G.Gates.watched c.args.gates.now in
    let watched = g.G.Gates.watched c.send-response.new.gates in
    let on = g.met.G.Gates.tells _ _ sent.leads in
    let ended = c.send-response.result.1 in
    let off = sent.cut in
    record {
      keeps = sent.keeps;
      leads = sent.leads;
      asked = sent.asked;
      caused = λ window tables turns grace fresh none shown behind lifecycle.
          let served = serving g.A-Fairing-Requests-RequestCallback.calling g.A.Fairing.Responses.ResponseCallback.calling g.A-Handler-Handler.calling g.A.Catch.CatchHandler.calling g.A.Source.Source.meaning g.A.Stream.Source.meaning g.K.Link.meaning window in
          let how = sent.ended in
          let same : c.replace-response.result ≡ c.args.response = c.replace-response.ensures.old ∙ ap (λ k. k.1) c.in-Ok.ensures in
          let read_on = rw same at sent.read_on in
          let reads = rw same at sent.reads in
          let sent_as = rw same at how.1 in
          caused_sent served tables _ _ (g.K.Link.meaning c.args.io.io) c.args.run c.args.response c.send-response.result.0 ended how.0
          (rw (ap (λ k. k.0) c.in-Ok.ensures, c.replace.ensures.new) refl) shown (λ is. word_stays old watched on (behind is)) lifecycle fresh none read_on reads
          (subst (λ (n : ℕ). IsSentAs g.A.Stream.Source.meaning (max n 1) c.args.response c.send-response.result.0 ended how.0) (sym turns) sent_as) how.2
          watched refl (on.grace ∙ grace) off;
      cut = cut_off_by watched _ ended off;
      ended = λ is. subst (IsCutOff watched _) is off;
      moment = for_one _ c.in-Ok.run' (ap (λ k. k.0.moment) c.in-Ok.ensures);
      calls = for_one _ c.in-Ok.run' (ap (λ k. k.0.calls) c.in-Ok.ensures);
    }

pub returns-in_default : goal.returns-in_default
returns-in_default g c =
    let entry = c.unanswered.ensures in
    let run = ap (λ (e : EntryOf _ _ _). e.run) entry in
    record {
      keeps = c.requires.keeps;
      leads = g.met.G.Gates.stays c.args.gates.now;
      asked = rw entry refl;
      caused = λ window tables turns grace fresh none shown behind lifecycle.
          starved_unsent (serving g.A-Fairing-Requests-RequestCallback.calling g.A.Fairing.Responses.ResponseCallback.calling g.A-Handler-Handler.calling g.A.Catch.CatchHandler.calling g.A.Source.Source.meaning g.A.Stream.Source.meaning g.K.Link.meaning window) tables _ c.unanswered.result c.args.io c.requires.active fresh none entry;
      cut = rw entry tt;
      ended = not_abandoned c.unanswered.result.end (ap (λ (e : EntryOf _ _ _). e.end) entry);
      moment = for_none _ c.unanswered.result.run run;
      calls = for_none _ c.unanswered.result.run run;
    }
