use Rattle.std.proofs.Common.{◌∙◌, ◌∷◌, ◌++◌, [], ap, sym, List, ℕ}
use Rattle.std.proofs.lemmas.Result.{on_ok_weaker}
use Rattle.rkt_http.specs.Headers.{Group, added}
use Rattle.rkt_http.proofs.Groups.{changed_there, put_last}
use Rattle.rkt_http.proofs.header_map.HeaderMap.add.Goals as goal

grown : List ℕ → Group → Group
grown value group = record group { values = group.values ++ value ∷ [] }

alone : List ℕ → List (List ℕ) → Group
alone name values = record { name = name; values = values }

pub returns-in-Some-clause-ok : goal.returns-in-Some-clause-ok
unfolding grown alone
returns-in-Some-clause-ok c =
    let value = c.into_value.result in
    on_ok_weaker c.push_at.result
    (λ pushed. changed_there (grown value) (alone c.args.header.name (value ∷ [])) _ _ _ _ _ _ _ c.place_of.ensures.place (c.as_slice.ensures.value ∙ c.self.view_is) (sym c.as_slice.ensures.value) (c.as_str.ensures ∙ c.name.ensures) c.in-Some.is pushed
    ∙ ap (λ (value : List ℕ). added c.args.self.now (record { name = c.args.header.name; value = value })) c.into_value.ensures)
    c.push_at.ensures.ok

pub returns-in-None-clause-ok : goal.returns-in-None-clause-ok
unfolding grown alone
returns-in-None-clause-ok c =
    let header = c.args.header in
    on_ok_weaker c.insert_one.result
    (put_last (grown header.value) (alone header.name (header.value ∷ [])) _ _ _ _ _ _ c.place_of.ensures.place (c.as_slice.ensures.value ∙ c.self.view_is) (sym c.as_slice.ensures.value) (c.as_str.ensures ∙ c.name.ensures) c.in-None.is)
    c.insert_one.ensures.ok
