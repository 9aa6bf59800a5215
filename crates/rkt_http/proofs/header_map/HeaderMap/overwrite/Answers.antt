use Rattle.std.proofs.Common.{◌≡◌, ◌∙◌, ap, List, rules}
use Rattle.rkt_http.specs.Headers.{Group, group_of, overwritten}
use Rattle.rkt_http.proofs.OtherGroups.{group_of-overwritten}
use Rattle.rkt_http.proofs.header_map.HeaderMap.overwrite.Goals as goal

pub returns-clause-stays : goal.returns-clause-stays
returns-clause-stays c name none =
    let is : c.overwrite_all.new.groups.items ≡ overwritten c.args.self.now c.args.other = search rules in
    ap (λ (groups : List Group). group_of groups name) is ∙ group_of-overwritten c.args.self.now c.args.other name none
