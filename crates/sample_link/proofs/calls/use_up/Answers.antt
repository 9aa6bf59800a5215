use Rattle.std.proofs.Common.{◌≡◌, ◌+◌, arith, length, nat_eq, position, Some, None}
use Rattle.sample_link.proofs.Places.{place_if_listed, used_up}
use Rattle.sample_link.proofs.calls.use_up.Goals as goal

pub returns-in-Some-clause-listed : goal.returns-in-Some-clause-listed
returns-in-Some-clause-listed c =
    let found : Some c.in-Some.place ≡ position (λ n. nat_eq n c.args.number) c.args.numbers.now.items = rw c.as_slice.ensures.value at c.in-Some.ensures in
    place_if_listed c.args.numbers.now.items c.args.number (Some c.in-Some.place) found

pub returns-in-Some-clause-used : goal.returns-in-Some-clause-used
returns-in-Some-clause-used c =
    let found : Some c.in-Some.place ≡ position (λ n. nat_eq n c.args.number) c.args.numbers.now.items = rw c.as_slice.ensures.value at c.in-Some.ensures in
    let fewer : length c.swap_remove.new.self.items + 1 ≡ length c.args.numbers.now.items = omega arith in
    λ _. used_up c.args.numbers.now.items c.swap_remove.new.self.items c.args.number c.in-Some.place c.swap_remove.result found c.swap_remove.ensures.value c.swap_remove.ensures.items fewer

pub returns-in-None-clause-listed : goal.returns-in-None-clause-listed
returns-in-None-clause-listed c =
    let found : None ≡ position (λ n. nat_eq n c.args.number) c.args.numbers.now.items = rw c.as_slice.ensures.value at c.in-None.ensures in
    place_if_listed c.args.numbers.now.items c.args.number None found
