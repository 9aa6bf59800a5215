use Rattle.std.proofs.Common.{◌∙◌, ◌<◌, ◌++◌, ap, length, subst, sym, List, ℕ}
use Rattle.rkt_http.specs.Headers.{Group, added_all}
use Rattle.rkt_http.proofs.Groups.{appended_first, changed_there, put_last, still_within, taken_back}
use Rattle.rkt_http.proofs.header_groups.+append_all.Goals as goal

grown : List (List ℕ) → Group → Group
grown values group = record group { values = group.values ++ values }

group_of : List ℕ → List (List ℕ) → Group
group_of name values = record { name = name; values = values }

pub truncate_at-requires : goal.truncate_at-requires
truncate_at-requires t c =
    let within = subst (λ groups. c.in-Some-place_of.at < length groups) c.as_slice.ensures.value c.in-Some-place_of.ensures.within in
    still_within _ _ _ c.in-Some-place_of.at _ within c.in_ok-append_at-in-Some-place_of.ensures.ok c.in-Err.ensures.err

pub returns-in-Err-clause-err : goal.returns-in-Err-clause-err
returns-in-Err-clause-err t c =
    let within = subst (λ groups. c.in-Some-place_of.at < length groups) c.as_slice.ensures.value c.in-Some-place_of.ensures.within in
    taken_back _ _ _ _ c.in-Some-place_of.at (length c.values-count.result.now) _ c.index.result.now c.index.ensures within (ap length c.values-count.ensures)
    c.in_ok-append_at-in-Some-place_of.ensures.ok c.in-Err.ensures.err c.truncate_at.ensures

pub returns-in_default-append_all-clause-ok : goal.returns-in_default-append_all-clause-ok
unfolding grown group_of
returns-in_default-append_all-clause-ok t c =
    let values = c.into_values.result.items in
    appended_first _ _ _ _ _ c.in-Some.other c.in-Some.ensures.cases.0
    (changed_there (grown values) (group_of c.in-Some.other.name values) _ _ _ _ _ _ _ c.place_of.ensures.place c.as_slice.ensures.value (sym c.as_slice.ensures.value) c.name.ensures
    c.in-Some-place_of.is c.in_ok-append_at-in-Some-place_of.ensures.ok
    ∙ ap (added_all c.args.groups.now.items c.in-Some.other.name) c.into_values.ensures)
    c.in_default-append_all.ensures.ok

pub returns-in_default-append_all-2-clause-ok : goal.returns-in_default-append_all-2-clause-ok
unfolding grown group_of
returns-in_default-append_all-2-clause-ok t c =
    let other = c.in-Some.other in
    appended_first _ _ _ _ _ other c.in-Some.ensures.cases.0
    (put_last (grown other.values) (group_of other.name other.values) _ _ _ _ _ _ c.place_of.ensures.place c.as_slice.ensures.value (sym c.as_slice.ensures.value) c.name.ensures
    c.in-None.is c.in_ok-insert-in-None.ensures.ok)
    c.in_default-append_all-2.ensures.ok
