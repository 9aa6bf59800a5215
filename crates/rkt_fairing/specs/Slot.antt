-- What a slot tells of what it holds.
use Rattle.std.specs.Prelude.{codes, true, false}
use Rattle.rkt_http.specs.declared.key.Key.{Key}
use Rattle.rkt_fairing.specs.Info.{SeenInfo}
use Rattle.rkt_fairing.specs.declared.slot.Slot.{Slot}
use Rattle.rkt_fairing.specs.declared.slot.Slot.TheVariants.{Shield, App}

-- F is the type of the application's fairings

-- the shield is a singleton, called at liftoff and for responses
abbrev pub shield_info : SeenInfo
shield_info = record {
  name = codes "Shield";
  kind = record { ignite = false; liftoff = true; request = false; response = true; shutdown = false; singleton = true };
}

abbrev pub slot_key : {F : Type 0} → (F → Key) → Slot F → Key
slot_key key (Shield shield) = record { 0 = 0 }
slot_key key (App fairing) = key fairing

abbrev pub slot_info : {F : Type 0} → (F → SeenInfo) → Slot F → SeenInfo
slot_info info (Shield shield) = shield_info
slot_info info (App fairing) = info fairing
