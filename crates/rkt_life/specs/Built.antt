-- A rocket that is begun.
use Rattle.std.specs.Prelude.{ℕ, List}
use Rattle.rkt_http.specs.declared.key.Key.{Key}
use Rattle.rkt_fairing.specs.Building.{SeenBuilding, building_of}
use Rattle.rkt_fairing.specs.Fairings.{added, no_fairings}
use Rattle.rkt_fairing.specs.Info.{SeenInfo}
use Rattle.rkt_fairing.specs.declared.slot.Slot.TheVariants.{Shield}
use Rattle.rkt_shield.specs.Shield.{default_headers}

-- H is the type of handlers, K that of catchers' handlers, N that of what sentries ask, V that of managed values, F that of
-- the application's fairings

-- with a table, and the shield with its policies by default
abbrev pub built : {H K N V F : Type 0} → (F → Key) → (F → SeenInfo) → List (List ℕ × List ℕ) → SeenBuilding H K N V F
built key info table = record (building_of table) { fairings = added key info no_fairings (Shield default_headers) }
