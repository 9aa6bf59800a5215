use Rattle.std.proofs.Common.{rules, tests, not}
use Rattle.std.proofs.lemmas.Fn.{filter_same}
use Rattle.rkt_shield.specs.Shield.{has_name}
use Rattle.rkt_shield.proofs.ByName.{disabled_by_name}
use Rattle.rkt_shield.proofs.by_name.remove.Goals as goal

pub returns-clause-others : goal.returns-clause-others
returns-clause-others c = filter_same _ (λ header. not (has_name c.args.name.now header)) _ (λ x b f' k. search (rules, tests)) _ _ c.retain.ensures.filtered

pub returns-clause-by_name : goal.returns-clause-by_name
returns-clause-by_name c = disabled_by_name c.args.headers.now.items c.retain.new.self.items c.args.name.now (returns-clause-others c)
