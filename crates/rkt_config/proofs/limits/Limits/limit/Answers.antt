use Rattle.std.specs.Prelude.{string_bytes}
use Rattle.std.specs.Ordering.{nat_cmp}
use Rattle.std.specs.Cmp.Lexicographic.{slice_cmp}
use Rattle.rkt_config.proofs.Entries.{tree_insert_entry-seen}
use Rattle.rkt_config.proofs.limits.Limits.limit.Goals as goal

pub returns : goal.returns
returns c =
    rw (← c.self.view_is) (rw (c.in_ok-insert.ensures.entries, ← c.in_ok-name.ensures.ok) (tree_insert_entry-seen string_bytes (λ limit. limit) (slice_cmp nat_cmp) c.self.inside.limits.entries c.in_ok-name.name c.args.limit))
