-- What a rocket has that has ignited.
use Rattle.std.specs.Prelude.{◌≡◌}
use Rattle.rkt_ignition.specs.declared.parts.IgnitedPartsOf.{IgnitedPartsOf}
use Rattle.rkt_life.specs.Rocket.{SeenRocket}
use Rattle.rkt_exchange.specs.Tables.{SeenTables}

-- F is the type of fairings, H that of handlers, K that of catchers' handlers, N that of what sentries ask, V that of managed
-- values

-- all but the table that the configuration was read of
abbrev pub tables_of : {F H K N V : Type 0} → IgnitedPartsOf F H K N V → SeenTables F H K N V
tables_of parts = record { router = parts.router; fairings = parts.fairings; config = parts.config; managed = parts.managed }

-- the rocket is made of something that has ignited so
abbrev pub IgnitesTo : {F H K N V : Type 0} → (IgnitedPartsOf F H K N V → Type 0) → SeenRocket F H K N V → Type 0
IgnitesTo {F} {H} {K} {N} {V} Ignited rocket =
    (parts : IgnitedPartsOf F H K N V) × Ignited parts × (rocket.tables ≡ tables_of parts) × (rocket.table ≡ parts.table)
