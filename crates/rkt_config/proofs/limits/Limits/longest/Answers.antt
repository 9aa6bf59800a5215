use Rattle.std.proofs.Common.{◌≡◌, ℕ, Some, map, length, sym, ap, ◌∙◌, rules, arith}
use Rattle.std.specs.Prelude.{string_bytes}
use Rattle.std.specs.Option.{option_map}
use Rattle.std.specs.Map.{lookup}
use Rattle.std.specs.String.{string_cmp}
use Rattle.std.specs.BTreeMap.{is_at}
use Rattle.std.specs.Map.Iter.{deref_pair}
use Rattle.std.proofs.lemmas.Map.Iter.{iter_end}
use Rattle.std.proofs.lemmas.Map.Views.{All-turn}
use Rattle.rkt_data.specs.declared.data_stream.ByteUnit.{ByteUnit}
use Rattle.rkt_config.proofs.LongestFront.{best_past, best_stays, best_taken, limit_of_best, kept_by_bytes, is_no_front, is_a_front, is_above}
use Rattle.rkt_config.proofs.Entries.{whole_seen}
use Rattle.rkt_config.proofs.limits.Limits.longest.Goals as goal
use Rattle.rkt_config.proofs.limits.Limits.longest.Goals.{in_default-via-in-Some-best+else-front-length, in_default-via-in_default}

pub loop-front-preserved-then-not-has_front : goal.loop-front-preserved-then-not-has_front
loop-front-preserved-then-not-has_front c =
    best_past _ _ _ _ _ c.loop-front.best (is_no_front _ _ _ c.as_str-front.ensures.value c.if-not-has_front.ensures) c.loop-front.invariant

pub loop-front-preserved-then-front-length : goal.loop-front-preserved-then-front-length
loop-front-preserved-then-front-length c =
    best_stays _ _ _ _ _ c.loop-front.best _ c.in-Some-best.is (omega (arith, ap length c.as_str-front.ensures.value)) c.loop-front.invariant

pub loop-front-preserved : goal.loop-front-preserved
loop-front-preserved c =
    let entries = c.self.inside.limits.entries in
    let gives = c.into_iter-front-iterator.ensures.into_iter_gives in
    let kept = All-turn deref_pair (λ e. lookup (is_at (string_cmp e.0)) entries ≡ Some e.1) entries c.loop-front.yielded _ _ _ _ _ gives.6 gives.0 c.loop-front.yielded_by c.in-Some.is c.next.ensures.steps in
    best_taken _ _ _ _ _ c.loop-front.best _ (ap length c.as_str-front.ensures.value) (λ longest is. elim c.in_default.branch [ in_default-via-in-Some-best+else-front-length w ↦ is_above _ _ _ _ is w.in-Some-best.is w.if-front-length.false | in_default-via-in_default w ↦ absurd (w.in_default.not-Some longest is) ]) (is_a_front _ _ _ c.as_str-front.ensures.value c.if-not-has_front.ensures) (rw (← c.self.view_is) (kept_by_bytes entries c.in-Some.front.now c.in-Some.limit.now kept)) c.loop-front.invariant

pub returns-in_err-best : goal.returns-in_err-best
returns-in_err-best c =
    let whole : map deref_pair c.loop-front.yielded ≡ c.self.inside.limits.entries = search (rules, iter_end) in
    limit_of_best c.args.self.now _ _ c.loop-front.best _ (c.from_residual.ensures ∙ ap (option_map (λ (b : ℕ × ByteUnit). b.1)) (sym c.in_err-best.was)) (whole_seen string_bytes (λ limit. limit) _ _ _ whole c.self.view_is) c.loop-front.invariant

pub returns : goal.returns
returns c =
    let whole : map deref_pair c.loop-front.yielded ≡ c.self.inside.limits.entries = search (rules, iter_end) in
    limit_of_best c.args.self.now _ _ c.loop-front.best _ (ap (option_map (λ (b : ℕ × ByteUnit). b.1)) (sym c.in_ok-best.was)) (whole_seen string_bytes (λ limit. limit) _ _ _ whole c.self.view_is) c.loop-front.invariant
