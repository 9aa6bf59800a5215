-- What a source means that joins the bytes of a stream's items keeps the laws of a source.
use Rattle.std.proofs.Common.{ℕ, ◌≤◌, Option, None, Some, Vec, le_refl, arith}
use Rattle.std.specs.declared.alloc.Global.{Global}
use Rattle.rkt_stream.specs.Flow.{Flow}
use Rattle.rkt_stream.specs.Joining.{pended_of, pendings_of}

pub pended_within : {T : Type 0} (flow : T → Flow (Vec ℕ Global)) (stream : Option T)
    → pended_of flow stream ≤ pendings_of flow stream
pended_within flow None = le_refl 0
pended_within flow (Some t) = omega arith
