-- What the fairing of an application without fairings tells of itself.
use Rattle.std.specs.Prelude.{codes, false}
use Rattle.rkt_fairing.specs.Info.{SeenInfo}

-- it is of no kind
abbrev pub no_info : SeenInfo
no_info = record {
  name = codes "none";
  kind = record { ignite = false; liftoff = false; request = false; response = false; shutdown = false; singleton = false };
}
