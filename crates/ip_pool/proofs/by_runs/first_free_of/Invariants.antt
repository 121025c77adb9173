use Rattle.std.proofs.Common.{◌≡◌, ◌+◌, ◌*◌, ◌≤◌, drop, find}
use Rattle.std.specs.List.{flat_map}
use Rattle.ip_pool.specs.Pool.{candidates_in, is_free}
use Rattle.ip_pool.proofs.by_runs.first_free_of.Given as goal

-- what is sought is not in the ranges so far, and each of them took two steps at most
abbrev pub invariant-loop-range : goal.invariant-loop-range
invariant-loop-range g l = record {
  sought : find (is_free l.runs.addresses) (flat_map candidates_in (drop l.range-index l.ranges))
      ≡ find (is_free l.runs.addresses) (flat_map candidates_in l.ranges);
  cost : l.steps ≤ l.initial.steps + 2 * l.range-index;
}
