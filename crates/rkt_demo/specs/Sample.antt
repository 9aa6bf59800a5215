-- The sample application.
use Rattle.std.specs.Prelude.{◌≡◌, ℕ, []}
use Rattle.rkt_config.specs.Config.{IsConfig}
use Rattle.rkt_fairing.specs.Fairings.{SeenFairings, no_fairings, with_slot}
use Rattle.rkt_fairing.specs.Slot.{shield_info}
use Rattle.rkt_fairing.specs.declared.slot.Slot.TheVariants.{Shield}
use Rattle.rkt_life.specs.declared.no_fairing.NoFairing.{NoFairing}
use Rattle.rkt_exchange.specs.Tables.{SeenTables}
use Rattle.rkt_sample.specs.Mounted.{sample_catchers, sample_routes}
use Rattle.rkt_sample.specs.declared.catcher.SampleCatcher.{SampleCatcher}
use Rattle.rkt_sample.specs.declared.route.SampleRoute.{SampleRoute}
use Rattle.rkt_script.specs.Words.{Table}
use Rattle.rkt_shield.specs.Shield.{default_headers}

abbrev pub SampleTables : Type 0
SampleTables = SeenTables NoFairing SampleRoute SampleCatcher (Unit {0}) ℕ

-- the shield, with its policies by default
abbrev pub shield_alone : SeenFairings NoFairing
shield_alone = with_slot (Shield default_headers) (record { key = record { 0 = 0 }; info = shield_info }) no_fairings

-- the sample's routes and catchers, the shield, the configuration that a table spells, and no managed value
pub record IsSample (table : Table) (tables : SampleTables) : Type 0 where
  pub routes : tables.router.routes ≡ sample_routes
  pub catchers : tables.router.catchers ≡ sample_catchers
  pub fairings : tables.fairings ≡ shield_alone
  pub config : IsConfig table tables.config
  pub managed : tables.managed ≡ []
