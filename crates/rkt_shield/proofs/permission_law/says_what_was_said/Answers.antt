use Rattle.std.specs.Cmp.Derive.{bare_equiv}
use Rattle.rkt_shield.specs.contracts.feature.Feature.{enum}
use Rattle.rkt_shield.specs.PermissionLaws as permissions
use Rattle.rkt_shield.proofs.permission_law.says_what_was_said.Goals as goal

pub returns : goal.returns
returns c = permissions.says_what_was_said _ (bare_equiv enum)
