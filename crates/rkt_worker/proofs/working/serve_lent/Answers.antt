use Rattle.std.proofs.Common.{ap, subst, sym, ◌∙◌}
use Rattle.rkt_worker.specs.Causes.{Caused}
use Rattle.rkt_worker.specs.Gates.{word_in}
use Rattle.rkt_worker.specs.Serving.{serving}
use Rattle.rkt_worker.specs.Waiting.{IsLate}
use Rattle.rkt_worker.proofs.working.serve_lent.Goals as goal

pub serve-requires-clause-delays : goal.serve-requires-clause-delays
serve-requires-clause-delays g c = (
  c.requires.delays.0 ∙ sym (ap (λ t. t.config.grace) c.tables-tables.ensures.lends),
  c.requires.delays.1 ∙ sym (ap (λ t. t.config.mercy) c.tables-tables.ensures.lends),
)

pub returns-clause-caused : goal.returns-clause-caused
returns-clause-caused g c fresh =
    subst (λ t. Caused (serving g.A-Fairing-Requests-RequestCallback.calling g.A.Fairing.Responses.ResponseCallback.calling g.A-Handler-Handler.calling g.A.Catch.CatchHandler.calling g.A.Source.Source.meaning g.A.Stream.Source.meaning g.K.Link.meaning (g.G.Gates.watched c.args.gates.now).window) t (word_in (g.G.Gates.watched c.serve.new.gates).trip) c.serve.result.0) c.tables-tables.ensures.lends (c.serve.ensures.caused fresh)

pub returns-clause-late : goal.returns-clause-late
returns-clause-late g c is =
    subst (λ t. IsLate t.config.grace t.config.mercy (g.G.Gates.watched c.serve.new.gates).trip (g.G.Gates.watched c.serve.new.gates).last) c.tables-tables.ensures.lends (c.serve.ensures.late is)
