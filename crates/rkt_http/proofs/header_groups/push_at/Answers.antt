use Rattle.std.proofs.Common.{◌++◌, ◌∷◌, [], refl}
use Rattle.rkt_http.proofs.Groups.{changed_on_ok}
use Rattle.rkt_http.proofs.header_groups.push_at.Goals as goal

pub returns-clause-ok : goal.returns-clause-ok
returns-clause-ok c =
    changed_on_ok _ c.args.groups.now.items c.args.at c.index_mut.result.now c.push.new.self (λ group. record group { values = group.values ++ c.args.value ∷ [] }) _
    c.index_mut.ensures.value c.requires refl c.push.ensures.ok
