use Rattle.std.proofs.{Common.{arith, ap, get_or}, lemmas.List.Edits.map_over_more}
use Rattle.kernel_types.specs.Apply.Calls.{moved_last}
use Rattle.kernel_model.proofs.list_kernel.pool.move_lasts.Goals as goal

-- one more last is moved
pub loop-last-preserved : goal.loop-last-preserved
loop-last-preserved c =
    rw c.move_last.ensures
    (map_over_more (moved_last c.args.network.now c.args.number c.args.addr) c.deref_mut-last-items.result.now
    c.loop-last.last-items c.loop-last.last-index
    (get_or c.loop-last.last-items c.loop-last.last-index c.last-item.result)
    (omega arith) c.loop-last.invariant
    (ap (λ d. get_or c.loop-last.last-items c.loop-last.last-index d) c.last-item.is))
