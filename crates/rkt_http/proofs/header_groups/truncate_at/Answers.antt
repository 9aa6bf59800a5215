use Rattle.std.proofs.Common.{take}
use Rattle.rkt_http.proofs.Groups.{changed_set}
use Rattle.rkt_http.proofs.header_groups.truncate_at.Goals as goal

pub returns : goal.returns
returns c =
    changed_set c.args.groups.now.items c.args.at c.index_mut.result.now c.truncate.new.self (λ group. record group { values = take c.args.count group.values })
    c.index_mut.ensures.value c.requires c.truncate.ensures
