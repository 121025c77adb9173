use Rattle.std.proofs.Common.{◌≡◌, ◌-◌, length}
use Rattle.pod_workers.specs.Order.{IsInFileOrder}
use Rattle.tool_run.proofs.carry.carry_out.Given as goal

abbrev pub invariant-loop-book : goal.invariant-loop-book
invariant-loop-book g l = (l.book.plan ≡ l.initial.book.plan) × (l.threads ≡ 1 → IsInFileOrder l.book)

abbrev pub decreases-loop-book : goal.decreases-loop-book
decreases-loop-book g l = length l.initial.book.plan.pods.rounds - l.book.round
