use Rattle.std.proofs.Common.{◌≡◌, find}
use Rattle.ip_pool.specs.Pool.{candidates_between, is_free}
use Rattle.ip_pool.proofs.free.first_free_below.Given as goal

-- what is sought is not among the addresses so far
abbrev pub invariant-loop-bits : goal.invariant-loop-bits
invariant-loop-bits g l =
    find (is_free (g.T.Taken.taken l.taken)) (candidates_between l.range l.bits l.high)
    ≡ find (is_free (g.T.Taken.taken l.taken)) (candidates_between l.range l.low l.high)
