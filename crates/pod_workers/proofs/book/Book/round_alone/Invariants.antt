use Rattle.pod_workers.specs.{Extends.Extends, Order.IsInFileOrder}
use Rattle.pod_workers.proofs.{Books.RoundDone.AllBelow, InOrder.Appended.AppendsBelow}
use Rattle.pod_workers.proofs.book.Book.round_alone.Given as goal

abbrev pub invariant-loop-number : goal.invariant-loop-number
invariant-loop-number g l = record {
  extends : Extends l.fn.self l.self;
  below : AllBelow l.self l.number;
  appends : AppendsBelow l.fn.self l.self l.number;
  order : IsInFileOrder l.fn.self → IsInFileOrder l.self;
}
