use Rattle.std.proofs.Common.{◌≡◌, ◌++◌}
use Rattle.std.specs.{Iterator.Adapters.{zip_first, zip_second}, Slice.Iter.iter_rest}
use Rattle.host_local.specs.Leases as leases
use Rattle.host_local.proofs.leases.given_of.Given as goal

-- what the pairs so far mean and what those that are left do is all
abbrev pub invariant-loop-set : goal.invariant-loop-set
invariant-loop-set l = l.given.items
    ++ leases.given_of (iter_rest (zip_first l.set-iterator)) (iter_rest (zip_second l.set-iterator))
    ≡ leases.given_of l.sets l.addrs
