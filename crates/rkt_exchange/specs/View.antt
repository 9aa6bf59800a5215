-- What fairings see of an application's tables.
use Rattle.rkt_fairing.specs.Life.{SeenView}
use Rattle.rkt_exchange.specs.Tables.{SeenTables}

-- F is the type of fairings, H that of handlers, K that of catchers' handlers, N that of what sentries ask, V that of managed
-- values

abbrev pub view_of : {F H K N V : Type 0} → SeenTables F H K N V → SeenView H K N V
view_of tables = record { config = tables.config; managed = tables.managed; router = tables.router }
