use Rattle.std.proofs.Common.{◌≡◌, ◌++◌, take, drop}
use Rattle.std.specs.Prelude.{map}
use Rattle.kernel_types.specs.Apply.Calls.{moved_last}
use Rattle.kernel_model.proofs.list_kernel.pool.move_lasts.Given as goal

-- the lasts so far are moved
abbrev pub invariant-loop-last : goal.invariant-loop-last
invariant-loop-last l =
    l.last-items ≡ map (moved_last l.network l.number l.addr) (take l.last-index l.initial.last-items)
    ++ drop l.last-index l.initial.last-items
