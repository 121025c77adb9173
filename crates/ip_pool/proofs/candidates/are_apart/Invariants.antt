use Rattle.std.proofs.Common.{◌≡◌, drop}
use Rattle.ip_pool.specs.Pool.{are_apart}
use Rattle.ip_pool.proofs.candidates.are_apart.Given as goal

-- the ranges so far share no address with each other or with later ones
abbrev pub invariant-loop-place : goal.invariant-loop-place
invariant-loop-place l = are_apart (drop l.place l.ranges) ≡ are_apart l.ranges
