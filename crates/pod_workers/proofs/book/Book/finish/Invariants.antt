use Rattle.pod_workers.proofs.Names.{◌≡◌, ℕ, ◌+◌}
use Rattle.pod_workers.specs.{Extends.Extends, Order.{EarlierAreAnswered, IsInFileOrder}}
use Rattle.pod_workers.proofs.{Ends.StepsLeft.steps_left, InOrder.Appended.AppendsOwn}
use Rattle.pod_workers.proofs.book.Book.finish.Given as goal

abbrev pub invariant-loop-self : goal.invariant-loop-self
invariant-loop-self g l = record {
  extends : Extends l.fn.self l.self;
  own : AppendsOwn l.fn.self l.self l.number;
  order : ((n : ℕ) → l.number ≡ n + 1 → EarlierAreAnswered l.fn.self n) → IsInFileOrder l.fn.self
      → IsInFileOrder l.self;
}

abbrev pub decreases-loop-self : goal.decreases-loop-self
decreases-loop-self g l = steps_left l.self l.number
