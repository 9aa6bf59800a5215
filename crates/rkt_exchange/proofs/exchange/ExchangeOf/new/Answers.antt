use Rattle.std.proofs.Common.{◌∙◌, ap, refl}
use Rattle.rkt_exchange.proofs.Exchanging.{no_faults, peeking_begins, refusing_begins, some_faults}
use Rattle.rkt_exchange.specs.Beginning.{beginning}
use Rattle.rkt_exchange.specs.Relations.{relations_of}
use Rattle.rkt_exchange.specs.Tables.{table_of}
use Rattle.rkt_exchange.proofs.exchange.ExchangeOf.new.Goals.{in-empty, in_default}
use Rattle.rkt_exchange.proofs.exchange.ExchangeOf.new.Goals as goal

pub returns-clause-stands : goal.returns-clause-stands
returns-clause-stands g c = λ rule.
    let first = beginning c.args.incoming.request c.args.incoming.jar c.args.incoming.faults c.args.body c.args.shutdown in
    elim c.if-as_slice-lt1.branch [
      | in-empty w ↦ rw w.phase-is (peeking_begins (relations_of g.T.Source.Source.meaning g.P.RequestCallback.calling g.Q.ResponseCallback.calling g.H.Handler.calling g.K.CatchHandler.calling rule) first c.args.tables.now (record { request = c.args.incoming.request; body = c.args.body; ctx = c.new-ctx.result })
          (no_faults c.args.incoming.faults (rw c.as_slice.ensures at w.in-empty.len_below)) refl refl (ap (λ x. x.kept) c.new-ctx.ensures))
      | in_default w ↦ rw w.phase-is (refusing_begins (relations_of g.T.Source.Source.meaning g.P.RequestCallback.calling g.Q.ResponseCallback.calling g.H.Handler.calling g.K.CatchHandler.calling rule) first c.args.tables.now w.new.result
          (some_faults c.args.incoming.faults (rw c.as_slice.ensures at w.in_default.len_at_least))
          (w.new.ensures.table ∙ ap table_of c.tables.view_is) (rw (c.new-ctx.ensures, c.as_slice.ensures) at (w.new.ensures.stands rule)))
    ]
