use Rattle.std.proofs.Common.{arith, ◌≡◌, ◌+◌, ◌^◌, ◌<◌, ◌≤◌, ℕ, List, Some, map, length, vec_len, sym, ap, ◌∙◌}
use Rattle.std.specs.List.{range_with_len}
use Rattle.cases_turn.proofs.Entries.{same_map, all_planned, comes_back}
use Rattle.rkt_turn.specs.Known.{last_number}
use Rattle.rkt_turn.specs.Pass.{known, number_of}
use Rattle.rkt_turn.proofs.Counts.{drawn_name}
use Rattle.cases_turn.proofs.turns.written.Goals as goal

-- passes that lie in memory are fewer than there are numbers
small : (others count : ℕ) → (n : ℕ) → n ≤ count → count < 2 ^ 63 → n ≡ others → others < last_number
small others count n within cap len = omega (arith, within, cap, len)

pub all_write-first-requires-clause-first : goal.all_write-first-requires-clause-first
all_write-first-requires-clause-first g c κs within =
    let now = known c.split_all.new.self in
    let name : now.name ≡ Some c.args.plan = ap (λ v. v.name) c.in-Ok.ensures.view ∙ (drawn_name c.args.plan.others (known c.args.first) ∙ c.requires.name) in
    let o : ℕ = c.args.plan.others in
    let n : ℕ = now.number in
    let zero : n ≡ 0 = c.split_all.ensures.first.0 in (
      c.split_all.ensures.first.0,
      (c.split_all.ensures.own ∙ c.requires.first.1.0, c.split_all.ensures.first.1, c.split_all.ensures.mine ∙ c.requires.first.1.2),
      (name, (let g : n ≤ o = omega arith in g), small o c.in-Ok.others.cap (vec_len c.in-Ok.others) c.in-Ok.others.ok.1 c.in-Ok.others.small c.in-Ok.ensures.len),
    )

-- their numbers
numbers_from : (next others : ℕ) (ns : List ℕ) → next ≡ 1 → others < last_number → (next + others ≤ last_number → ns ≡ range_with_len next others) → ns ≡ range_with_len 1 others
numbers_from next others ns one few numbers = numbers (omega (arith, one, few)) ∙ ap (λ k. range_with_len k others) one

pub all_write-first-requires-clause-ready : goal.all_write-first-requires-clause-ready
all_write-first-requires-clause-ready g c κs within =
    let ps = c.in-Ok.others.items in
    let o : ℕ = c.args.plan.others in
    let few : o < last_number = small o c.in-Ok.others.cap (vec_len c.in-Ok.others) c.in-Ok.others.ok.1 c.in-Ok.others.small c.in-Ok.ensures.len in
    all_planned c.args.plan c.args.lock ps c.in-Ok.ensures.new
    (λ k d h. c.in-Ok.ensures.names k d h ∙ c.requires.name)
    (numbers_from (known c.args.first).next o (map number_of ps) c.requires.alone.1 few c.in-Ok.ensures.numbers) few

pub returns-in_ok-seen-in-Ok-clause-diary : goal.returns-in_ok-seen-in-Ok-clause-diary
returns-in_ok-seen-in-Ok-clause-diary g c =
    let name = ap (λ v. v.name) c.in-Ok.ensures.view ∙ (drawn_name c.args.plan.others (known c.args.first) ∙ c.requires.name) in
    c.closed-entries.ensures.diary c.args.plan (c.all_write-first.ensures.name ∙ name)

pub returns-in_ok-seen-in-Ok-clause-of_each : goal.returns-in_ok-seen-in-Ok-clause-of_each
returns-in_ok-seen-in-Ok-clause-of_each g c =
    let qs = c.all_write-first.result.1.items in
    let ps = c.in-Ok.others.items in
    let o : ℕ = c.args.plan.others in
    let few : o < last_number = small o c.in-Ok.others.cap (vec_len c.in-Ok.others) c.in-Ok.others.ok.1 c.in-Ok.others.small c.in-Ok.ensures.len in
    let name = ap (λ v. v.name) c.in-Ok.ensures.view ∙ (drawn_name c.args.plan.others (known c.args.first) ∙ c.requires.name) in
    let len : length ps ≡ length qs = sym c.in-Ok.others.ok.0 ∙ (sym c.all_write-first.ensures.len ∙ c.all_write-first.result.1.ok.0) in
    let same : map number_of ps ≡ map number_of qs = same_map number_of ps qs len (λ k d h. sym (c.all_write-first.ensures.numbers k d h)) in
    comes_back c.args.plan c.all_write-first.result.0.0 qs c.closed-entries.result.items
    (c.closed-entries.ensures.diary c.args.plan (c.all_write-first.ensures.name ∙ name))
    c.closed-entries.ensures.all
    c.all_write-first.ensures.first.1
    (sym same ∙ numbers_from (known c.args.first).next o (map number_of ps) c.requires.alone.1 few c.in-Ok.ensures.numbers)
    c.all_write-first.ensures.first_written c.all_write-first.ensures.written few
