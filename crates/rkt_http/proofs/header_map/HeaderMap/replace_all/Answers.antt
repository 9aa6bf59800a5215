use Rattle.std.proofs.Common.{◌∙◌, ap, sym, refl, List, ℕ}
use Rattle.std.proofs.lemmas.Result.{on_ok_weaker}
use Rattle.rkt_http.specs.Headers.{Group, replaced_all}
use Rattle.rkt_http.proofs.Groups.{changed_there, put_last}
use Rattle.rkt_http.proofs.header_map.HeaderMap.replace_all.Goals as goal

with_values : List (List ℕ) → Group → Group
with_values values group = record group { values = values }

group_of : List ℕ → List (List ℕ) → Group
group_of name values = record { name = name; values = values }

pub returns-in-Some-clause-ok : goal.returns-in-Some-clause-ok
unfolding with_values group_of
returns-in-Some-clause-ok c =
    let values = c.in_ok-values.values.items in
    changed_there (with_values values) (group_of c.args.name.now values) _ _ _ _ _ _ _ c.place_of.ensures.place (c.as_slice.ensures.value ∙ c.self.view_is) (sym c.as_slice.ensures.value) refl c.in-Some.is c.set_at.ensures.groups
    ∙ ap (replaced_all c.args.self.now c.args.name.now) c.in_ok-values.ensures

pub returns-in-None-clause-ok : goal.returns-in-None-clause-ok
unfolding with_values group_of
returns-in-None-clause-ok c =
    let values = c.in_ok-values.values.items in
    on_ok_weaker c.insert_all.result
    (λ put. put_last (with_values values) (group_of c.args.name.now values) _ _ _ _ _ _ c.place_of.ensures.place (c.as_slice.ensures.value ∙ c.self.view_is) (sym c.as_slice.ensures.value) refl c.in-None.is put
    ∙ ap (replaced_all c.args.self.now c.args.name.now) c.in_ok-values.ensures)
    c.insert_all.ensures.ok
