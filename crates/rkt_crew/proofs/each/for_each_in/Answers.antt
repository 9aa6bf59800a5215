use Rattle.std.proofs.Common.{rules, ◌≡◌, ◌++◌, ℕ, List, length, take, subst, sym, ap, ◌∙◌}
use Rattle.std.proofs.Math.Seq.{take-append_seam}
use Rattle.std.specs.Fork.{ChangesEach}
use Rattle.rkt_crew.proofs.each.for_each_in.Goals as goal

whole : {A : Type 0} (P : List A → Type 0) (n : ℕ) (xs ys : List A) → n ≡ length xs → P xs → P (take n (xs ++ ys))
whole P n xs ys e p = subst P (sym (ap (λ m. take m (xs ++ ys)) e ∙ take-append_seam xs ys)) p

pub returns-clause-changes : goal.returns-clause-changes
returns-clause-changes g c = whole (ChangesEach g.F.Fn c.args.f.now c.args.list.now.items) _ c.for_each_mut.new.s _ (search rules)
    (subst (λ l. ChangesEach g.F.Fn c.args.f.now l c.for_each_mut.new.s) c.as_mut_slice.ensures.value c.for_each_mut.ensures)
