use Rattle.std.proofs.Common.{◌≡◌, ◌++◌, ◌+◌, ◌≤◌, ◌∙◌, ℕ, List, take, drop, length, arith, refl, ap, sym, inl, inr}
use Rattle.std.proofs.lemmas.Grind.{common_steps}
use Rattle.rkt_script.specs.Streams.{ReadsOn}
use Rattle.rkt_script.specs.declared.stream.TheConstants.{GATE}
use Rattle.rkt_script.proofs.StreamLemmas.{no_memory_reads, reads_more}
use Rattle.rkt_script.proofs.stream.read_all.Goals as goal

none_of : (n : ℕ) (block : List ℕ) → n ≡ 0 → length (take n block) ≡ 0
none_of n block is = grind (arith, common_steps, is)

read_out : (w xs : List ℕ) (from most : ℕ) → xs ≡ take (length xs) (drop from w) → length w ≤ from + length xs → length xs ≤ most → xs ≡ take most (drop from w)
read_out w xs from most is out within =
    let all : take most (drop from w) ≡ drop from w = grind (arith, common_steps, out, within) in
    let these : take (length xs) (drop from w) ≡ drop from w = grind (arith, common_steps, out) in
    is ∙ (these ∙ sym all)

pub loop-block-preserved : goal.loop-block-preserved
loop-block-preserved g c =
    let before = g.S.Source.meaning c.args.source.now in
    let after = g.S.Source.meaning c.read_block.new.source in
    let given = take c.in_ok-count.count c.read_block.new.block in
    let items : c.extend_from_slice.new.self.items ≡ c.loop-block.all.items ++ given = c.in_ok-extend_from_slice.ensures.items in
    let within : length (c.loop-block.all.items ++ given) ≤ c.args.most = grind (arith, common_steps, c.in_ok-count.ensures.within, c.min-room.ensures, c.read_block.auto.block) in
    (rw items (reads_more before (g.S.Source.meaning c.loop-block.source) after c.loop-block.all.items given c.loop-block.invariant.0 c.in_ok-count.ensures.reads), rw items within, c.loop-block.invariant.2, ReadsOn.more c.loop-block.invariant.3 (omega (arith, c.if-count-eq0.false)) c.in_ok-count.ensures.polled)

pub loop-block-init : goal.loop-block-init
loop-block-init g c = rw c.new-all.ensures.items (record { whole = refl; next = λ w is. refl; taken = omega arith; faults = omega arith; unwarned = c.requires }, omega arith, c.in_ok-block.ensures, ReadsOn.none)

pub returns-in_err-block-clause-polled : goal.returns-in_err-block-clause-polled
returns-in_err-block-clause-polled g c = no_memory_reads g.S.Source.polled GATE c.from_residual.result _ _ c.from_residual.ensures.1 ReadsOn.none

pub returns-then-count-eq0-clause-polled : goal.returns-then-count-eq0-clause-polled
returns-then-count-eq0-clause-polled g c = inr (_, c.loop-block.invariant.3, rw c.if-count-eq0.true at c.in_ok-count.ensures.polled)

pub returns-clause-polled : goal.returns-clause-polled
returns-clause-polled g c = inl c.loop-block.invariant.3

pub returns-in_err-extend_from_slice-clause-polled : goal.returns-in_err-extend_from_slice-clause-polled
returns-in_err-extend_from_slice-clause-polled g c =
    no_memory_reads g.S.Source.polled GATE c.from_residual-in_err-extend_from_slice.result _ _ c.from_residual-in_err-extend_from_slice.ensures.1 (ReadsOn.more c.loop-block.invariant.3 (omega (arith, c.if-count-eq0.false)) c.in_ok-count.ensures.polled)

pub returns-in_err-extend_from_slice-clause-bound : goal.returns-in_err-extend_from_slice-clause-bound
returns-in_err-extend_from_slice-clause-bound g c =
    let before = g.S.Source.meaning c.args.source.now in
    let given = take c.in_ok-count.count c.read_block.new.block in
    let within : length (c.loop-block.all.items ++ given) ≤ c.args.most = grind (arith, common_steps, c.in_ok-count.ensures.within, c.min-room.ensures, c.read_block.auto.block) in
    let read = reads_more before (g.S.Source.meaning c.loop-block.source) (g.S.Source.meaning c.read_block.new.source) c.loop-block.all.items given c.loop-block.invariant.0 c.in_ok-count.ensures.reads in
    omega (arith, read.taken, within)

pub returns-in_err-extend_from_slice-clause-unwarned : goal.returns-in_err-extend_from_slice-clause-unwarned
returns-in_err-extend_from_slice-clause-unwarned g c = c.in_ok-count.ensures.reads.unwarned

pub returns-in_err-count-clause-bound : goal.returns-in_err-count-clause-bound
returns-in_err-count-clause-bound g c = omega (arith, c.loop-block.invariant.0.taken, c.loop-block.invariant.1, c.in_err-count.ensures.err.taken)

pub returns-in_err-count-clause-unwarned : goal.returns-in_err-count-clause-unwarned
returns-in_err-count-clause-unwarned g c = c.in_err-count.ensures.err.unwarned

pub returns-then-count-eq0-clause-bytes : goal.returns-then-count-eq0-clause-bytes
returns-then-count-eq0-clause-bytes g c = λ w is.
    let read = c.loop-block.invariant.0 in
    let next = c.in_ok-count.ensures.reads in
    let out = c.in_ok-count.ensures.end c.if-count-eq0.true w (next.whole ∙ (read.whole ∙ is)) in
    let none = none_of c.in_ok-count.count c.read_block.new.block c.if-count-eq0.true in
    read_out w c.loop-block.all.items (g.S.Source.meaning c.args.source.now).taken c.args.most (read.next w is) (omega (arith, read.taken, next.taken, none, out)) c.loop-block.invariant.1

pub returns-then-count-eq0-clause-taken : goal.returns-then-count-eq0-clause-taken
returns-then-count-eq0-clause-taken g c = inl (c.in_ok-count.ensures.end c.if-count-eq0.true)

pub returns-then-count-eq0-clause-bound : goal.returns-then-count-eq0-clause-bound
returns-then-count-eq0-clause-bound g c =
    let none = none_of c.in_ok-count.count c.read_block.new.block c.if-count-eq0.true in
    omega (arith, c.loop-block.invariant.0.taken, c.loop-block.invariant.1, c.in_ok-count.ensures.reads.taken, none)

pub returns-then-count-eq0-clause-unwarned : goal.returns-then-count-eq0-clause-unwarned
returns-then-count-eq0-clause-unwarned g c = c.in_ok-count.ensures.reads.unwarned

pub returns-clause-bytes : goal.returns-clause-bytes
returns-clause-bytes g c = λ w is.
    let same : length c.loop-block.all.items ≡ c.args.most = grind (arith, common_steps, c.loop-block.invariant.1, c.loop-block-test.false, c.len.ensures, c.loop-block.all.ok.0) in
    c.loop-block.invariant.0.next w is ∙ ap (λ (n : ℕ). take n (drop (g.S.Source.meaning c.args.source.now).taken w)) same

pub returns-clause-taken : goal.returns-clause-taken
returns-clause-taken g c =
    let same : length c.loop-block.all.items ≡ c.args.most = grind (arith, common_steps, c.loop-block.invariant.1, c.loop-block-test.false, c.len.ensures, c.loop-block.all.ok.0) in
    inr (omega (arith, c.loop-block.invariant.0.taken, same))

pub returns-clause-bound : goal.returns-clause-bound
returns-clause-bound g c = omega (arith, c.loop-block.invariant.0.taken, c.loop-block.invariant.1)

pub returns-clause-unwarned : goal.returns-clause-unwarned
returns-clause-unwarned g c = c.loop-block.invariant.0.unwarned
