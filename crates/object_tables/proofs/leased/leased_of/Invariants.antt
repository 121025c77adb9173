use Rattle.std.proofs.Common.{take}
use Rattle.object_tables.specs.Leased.{AreLeased}
use Rattle.object_tables.proofs.leased.leased_of.Given as goal

-- the addresses of the leases so far
abbrev pub invariant-loop-lease : goal.invariant-loop-lease
invariant-loop-lease l = AreLeased l.leased (take l.lease-index l.leases)
