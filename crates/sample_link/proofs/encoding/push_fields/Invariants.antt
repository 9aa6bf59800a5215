use Rattle.std.proofs.Common.{◌≡◌, ◌++◌, take, flat_map}
use Rattle.sample_link.specs.Encoding.{field_line}
use Rattle.sample_link.proofs.encoding.push_fields.Given as goal

abbrev pub invariant-loop-name : goal.invariant-loop-name
invariant-loop-name l = l.out.items ≡ l.initial.out.items ++ flat_map field_line (take l.name-index l.headers)
