use Rattle.std.proofs.Common.{◌∙◌, ◌∷◌, [], ap, is_some, sym, List, ℕ}
use Rattle.rkt_http.specs.Headers.{Group, replaced}
use Rattle.rkt_http.proofs.Groups.{changed_there, put_last, is_there}
use Rattle.rkt_http.proofs.header_map.HeaderMap.replace.Goals as goal

with_values : List (List ℕ) → Group → Group
with_values values group = record group { values = values }

group_of : List ℕ → List (List ℕ) → Group
group_of name values = record { name = name; values = values }

pub returns-in_ok-set_one_at-in-Some-clause-ok : goal.returns-in_ok-set_one_at-in-Some-clause-ok
unfolding with_values group_of
returns-in_ok-set_one_at-in-Some-clause-ok c =
    let value = c.into_value.result in
    changed_there (with_values (value ∷ [])) (group_of c.args.header.name (value ∷ [])) _ _ _ _ _ _ _ c.place_of.ensures.place (c.as_slice.ensures.value ∙ c.self.view_is) (sym c.as_slice.ensures.value) (c.as_str.ensures ∙ c.name.ensures) c.in-Some.is c.in_ok-set_one_at-in-Some.ensures.ok
    ∙ ap (λ (value : List ℕ). replaced c.args.self.now (record { name = c.args.header.name; value = value })) c.into_value.ensures

pub returns-in_ok-set_one_at-in-Some-clause-there : goal.returns-in_ok-set_one_at-in-Some-clause-there
returns-in_ok-set_one_at-in-Some-clause-there c =
    sym (ap is_some c.in-Some.is) ∙ is_there _ _ _ _ _ c.place_of.ensures.place (c.as_slice.ensures.value ∙ c.self.view_is) (c.as_str.ensures ∙ c.name.ensures)

pub returns-in_ok-insert_one-in-None-clause-ok : goal.returns-in_ok-insert_one-in-None-clause-ok
unfolding with_values group_of
returns-in_ok-insert_one-in-None-clause-ok c =
    let header = c.args.header in
    put_last (with_values (header.value ∷ [])) (group_of header.name (header.value ∷ [])) _ _ _ _ _ _ c.place_of.ensures.place (c.as_slice.ensures.value ∙ c.self.view_is) (sym c.as_slice.ensures.value) (c.as_str.ensures ∙ c.name.ensures) c.in-None.is c.in_ok-insert_one-in-None.ensures.ok

pub returns-in_ok-insert_one-in-None-clause-there : goal.returns-in_ok-insert_one-in-None-clause-there
returns-in_ok-insert_one-in-None-clause-there c =
    sym (ap is_some c.in-None.is) ∙ is_there _ _ _ _ _ c.place_of.ensures.place (c.as_slice.ensures.value ∙ c.self.view_is) (c.as_str.ensures ∙ c.name.ensures)
