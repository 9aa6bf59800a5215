use Rattle.std.proofs.Common.{sym, ◌∙◌, ap, Some}
use Rattle.std.specs.Prelude.{string_bytes}
use Rattle.std.specs.Option.{option_map}
use Rattle.std.specs.Str.{bytes_eq}
use Rattle.rkt_config.proofs.Entries.{lookup-seen}
use Rattle.rkt_config.proofs.config_table.ConfigTable.get.Goals as goal

pub returns-in-Some : goal.returns-in-Some
returns-in-Some c =
    rw (← c.self.view_is) (ap Some c.as_str.ensures.value ∙ ap (option_map string_bytes) (c.in-Some.ensures.value) ∙ sym (lookup-seen string_bytes string_bytes (bytes_eq c.args.name.now) c.self.inside.entries.entries))

pub returns-in-None : goal.returns-in-None
returns-in-None c =
    rw (← c.self.view_is) (ap (option_map string_bytes) c.in-None.ensures.value ∙ sym (lookup-seen string_bytes string_bytes (bytes_eq c.args.name.now) c.self.inside.entries.entries))
