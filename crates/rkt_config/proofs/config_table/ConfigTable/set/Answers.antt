use Rattle.std.specs.Prelude.{string_bytes}
use Rattle.std.specs.Str.{bytes_eq}
use Rattle.rkt_config.proofs.Entries.{insert_entry-seen}
use Rattle.rkt_config.proofs.config_table.ConfigTable.set.Goals as goal

pub returns-clause-ok : goal.returns-clause-ok
returns-clause-ok c =
    rw (← c.self.view_is) (rw (c.in_ok-insert.ensures.entries, ← c.in_ok-name.ensures.ok, ← c.in_ok-text.ensures.ok) (insert_entry-seen string_bytes string_bytes bytes_eq c.self.inside.entries.entries c.in_ok-name.name c.in_ok-text.text))
