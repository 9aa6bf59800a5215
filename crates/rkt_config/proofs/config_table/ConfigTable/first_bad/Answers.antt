use Rattle.std.proofs.Common.{◌≡◌, ◌++◌, map, not, sym, ap, ◌∙◌, rules}
use Rattle.std.specs.Prelude.{string_bytes}
use Rattle.std.specs.Map.Iter.{deref_pair}
use Rattle.std.proofs.lemmas.Map.Iter.{iter_end, rest_so_far}
use Rattle.rkt_config.specs.Config.{first_bad, fits}
use Rattle.rkt_config.proofs.Entries.{whole_seen, part_seen}
use Rattle.rkt_config.proofs.TableScans.{found_next, none_more}
use Rattle.rkt_config.proofs.config_table.ConfigTable.first_bad.Goals as goal

pub returns-then-not-fits : goal.returns-then-not-fits
returns-then-not-fits c =
    let part = rest_so_far deref_pair c.loop-name.yielded _ _ c.loop-name.yielded_by in
    let entries = sym c.into_iter-name-iterator.ensures.into_iter_gives.0 ∙ part ∙ ap (λ rest. map deref_pair c.loop-name.yielded ++ rest) c.in-Some.ensures.steps in
    rw (c.as_str-name.ensures.value, c.as_str-text.ensures.value) (found_next (λ e. not (fits e.0 e.1)) _ _ _ _ (part_seen string_bytes string_bytes _ _ _ _ (c.in-Some.name, c.in-Some.text) entries c.self.view_is) c.loop-name.invariant (rw (← c.as_str-name.ensures.value, ← c.as_str-text.ensures.value) (ap not (sym c.if-not-fits.ensures))))

pub loop-name-preserved : goal.loop-name-preserved
loop-name-preserved c =
    none_more (λ e. not (fits e.0 e.1)) (λ e. (string_bytes e.0.now, string_bytes e.1.now)) c.loop-name.yielded _ c.loop-name.invariant (rw (← c.as_str-name.ensures.value, ← c.as_str-text.ensures.value) (ap not (sym c.if-not-fits.ensures)))

pub returns : goal.returns
returns c =
    let whole : map deref_pair c.loop-name.yielded ≡ c.self.inside.entries.entries = search (rules, iter_end) in
    sym (ap first_bad (sym (whole_seen string_bytes string_bytes _ _ _ whole c.self.view_is)) ∙ c.loop-name.invariant)
