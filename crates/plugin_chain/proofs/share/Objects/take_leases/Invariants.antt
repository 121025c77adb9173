use Rattle.std.proofs.Common.{◌≡◌, map, take}
use Rattle.kernel_types.specs.Terms.{lease_of}
use Rattle.plugin_chain.proofs.share.Objects.take_leases.Given as goal

-- the leases of the addresses so far
abbrev pub invariant-loop-addr : goal.invariant-loop-addr
invariant-loop-addr l = l.leases.items ≡ map (lease_of l.att) (take l.addr-index l.addrs)
