-- What a fairing tells of itself, as contracts see it.
use Rattle.std.specs.Prelude.{ℕ, List}
use Rattle.rkt_fairing.specs.declared.info.Info.{Info}
use Rattle.rkt_fairing.specs.declared.kind.Kind.{Kind}

pub record SeenInfo : Type 0 where
  pub name : List ℕ
  pub kind : Kind

abbrev pub seen_info : Info → SeenInfo
seen_info info = record { name = info.name.now; kind = info.kind }
