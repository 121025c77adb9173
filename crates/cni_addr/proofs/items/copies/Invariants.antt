use Rattle.std.proofs.Common.{◌≡◌, take}
use Rattle.cni_addr.proofs.items.copies.Given as goal

-- the items so far are copied
abbrev pub invariant-loop-item : goal.invariant-loop-item
invariant-loop-item g l = l.twins.items ≡ take l.item-index l.items
