use Rattle.std.proofs.Common.{◌∙◌, ◌++◌, ap, sym, refl, List, ℕ}
use Rattle.std.proofs.lemmas.Result.{on_ok_weaker}
use Rattle.rkt_http.specs.Headers.{Group, added_all}
use Rattle.rkt_http.proofs.Groups.{changed_there, put_last}
use Rattle.rkt_http.proofs.header_map.HeaderMap.add_all.Goals as goal

grown : List (List ℕ) → Group → Group
grown values group = record group { values = group.values ++ values }

group_of : List ℕ → List (List ℕ) → Group
group_of name values = record { name = name; values = values }

pub returns-in-Some-clause-ok : goal.returns-in-Some-clause-ok
unfolding grown group_of
returns-in-Some-clause-ok c =
    let values = c.in_ok-values.values.items in
    on_ok_weaker c.append_at.result
    (λ appended. changed_there (grown values) (group_of c.args.name.now values) _ _ _ _ _ _ _ c.place_of.ensures.place (c.as_slice.ensures.value ∙ c.self.view_is) (sym c.as_slice.ensures.value) refl c.in-Some.is appended
    ∙ ap (added_all c.args.self.now c.args.name.now) c.in_ok-values.ensures)
    c.append_at.ensures.ok

pub returns-in-None-clause-ok : goal.returns-in-None-clause-ok
unfolding grown group_of
returns-in-None-clause-ok c =
    let values = c.in_ok-values.values.items in
    on_ok_weaker c.insert_all.result
    (λ put. put_last (grown values) (group_of c.args.name.now values) _ _ _ _ _ _ c.place_of.ensures.place (c.as_slice.ensures.value ∙ c.self.view_is) (sym c.as_slice.ensures.value) refl c.in-None.is put
    ∙ ap (added_all c.args.self.now c.args.name.now) c.in_ok-values.ensures)
    c.insert_all.ensures.ok
