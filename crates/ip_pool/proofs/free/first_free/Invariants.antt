use Rattle.std.proofs.Common.{◌≡◌, drop, find}
use Rattle.std.specs.List.{flat_map}
use Rattle.ip_pool.specs.Pool.{candidates_in, is_free}
use Rattle.ip_pool.proofs.free.first_free.Given as goal

-- what is sought is not in the ranges so far
abbrev pub invariant-loop-range : goal.invariant-loop-range
invariant-loop-range g l =
    find (is_free (g.T.Taken.taken l.taken)) (flat_map candidates_in (drop l.range-index l.ranges))
    ≡ find (is_free (g.T.Taken.taken l.taken)) (flat_map candidates_in l.ranges)
