use Rattle.std.proofs.Common.{◌≡◌, map}
use Rattle.std.specs.Prelude.{string_bytes}
use Rattle.rkt_config.specs.Config.{limits_in}
use Rattle.rkt_config.proofs.config_table.ConfigTable.limits.Given as goal

abbrev pub invariant-loop-name : goal.invariant-loop-name
invariant-loop-name l = l.limits ≡ limits_in (map (λ e. (string_bytes e.0.now, string_bytes e.1.now)) l.yielded)
