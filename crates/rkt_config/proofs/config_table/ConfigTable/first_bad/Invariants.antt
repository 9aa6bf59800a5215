use Rattle.std.proofs.Common.{◌≡◌, map, None}
use Rattle.std.specs.Prelude.{string_bytes}
use Rattle.rkt_config.specs.Config.{first_bad}
use Rattle.rkt_config.proofs.config_table.ConfigTable.first_bad.Given as goal

abbrev pub invariant-loop-name : goal.invariant-loop-name
invariant-loop-name l = first_bad (map (λ e. (string_bytes e.0.now, string_bytes e.1.now)) l.yielded) ≡ None
