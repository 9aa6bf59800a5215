use Rattle.std.proofs.Common.{◌∙◌, ap, sym, List, ℕ}
use Rattle.rkt_http.specs.Headers.{Group, replaced_all}
use Rattle.rkt_http.proofs.Groups.{changed_there, put_last}
use Rattle.rkt_http.proofs.header_groups.overwrite_one.Goals as goal

with_values : List (List ℕ) → Group → Group
with_values values group = record group { values = values }

group_of : List ℕ → List (List ℕ) → Group
group_of name values = record { name = name; values = values }

pub returns-in-Some-clause-groups : goal.returns-in-Some-clause-groups
unfolding with_values group_of
returns-in-Some-clause-groups c =
    let values = c.into_values.result.items in
    changed_there (with_values values) (group_of c.args.other.name values) _ _ _ _ _ _ _ c.place_of.ensures.place c.as_slice.ensures.value (sym c.as_slice.ensures.value) c.name.ensures
    c.in-Some.is c.set_at.ensures.groups
    ∙ ap (replaced_all c.args.groups.now.items c.args.other.name) c.into_values.ensures

pub returns-in-None-clause-groups : goal.returns-in-None-clause-groups
unfolding with_values group_of
returns-in-None-clause-groups c =
    let other = c.args.other in
    put_last (with_values other.values) (group_of other.name other.values) _ _ _ _ _ _ c.place_of.ensures.place c.as_slice.ensures.value (sym c.as_slice.ensures.value) c.name.ensures
    c.in-None.is c.push_reserved.ensures.items
