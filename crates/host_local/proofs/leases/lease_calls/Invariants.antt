use Rattle.std.proofs.Common.{◌≡◌, ◌++◌, drop}
use Rattle.host_local.specs.Leases.{lease_calls_from, lease_calls_of}
use Rattle.host_local.proofs.leases.lease_calls.Given as goal

-- the calls so far and those for the sets that are left are all
abbrev pub invariant-loop-place : goal.invariant-loop-place
invariant-loop-place l =
    l.calls.items ++ lease_calls_from l.att l.place (drop l.place l.sets) ≡ lease_calls_of l.sets l.att
