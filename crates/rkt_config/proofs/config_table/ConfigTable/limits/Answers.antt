use Rattle.std.proofs.Common.{◌≡◌, map, ap, ◌∙◌, rules}
use Rattle.std.specs.Prelude.{string_bytes}
use Rattle.std.specs.Map.Iter.{deref_pair}
use Rattle.std.proofs.lemmas.Map.Iter.{iter_end}
use Rattle.rkt_config.specs.Config.{limits_in}
use Rattle.rkt_config.proofs.Entries.{whole_seen}
use Rattle.rkt_config.proofs.config_table.ConfigTable.limits.Goals as goal

pub returns : goal.returns
returns c =
    let whole : map deref_pair c.loop-name.yielded ≡ c.self.inside.entries.entries = search (rules, iter_end) in
    c.loop-name.invariant ∙ ap limits_in (whole_seen string_bytes string_bytes _ _ _ whole c.self.view_is)
