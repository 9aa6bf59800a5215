use Rattle.std.proofs.Common.{◌≡◌, take}
use Rattle.rkt_base.proofs.copies.copy_all.Given as goal

-- so far each is copied
abbrev pub invariant-loop-item : goal.invariant-loop-item
invariant-loop-item g l = l.copies.items ≡ take l.item-index l.items
