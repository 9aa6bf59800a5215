use Rattle.rkt_http.proofs.Groups.{changed_set}
use Rattle.rkt_http.proofs.header_groups.set_at.Goals as goal

pub returns-clause-groups : goal.returns-clause-groups
returns-clause-groups c =
    changed_set c.args.groups.now.items c.args.at c.index_mut.result.now c.set.new.self (λ group. record group { values = c.args.values.items })
    c.index_mut.ensures.value c.requires c.set.ensures
