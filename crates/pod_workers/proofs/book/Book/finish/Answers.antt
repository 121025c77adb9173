use Rattle.pod_workers.specs.Order.{IsEntryBy}
use Rattle.pod_workers.proofs.Books.RoundDone.{appends-none, extends_refl, extends_trans, order-more, step_extends}
use Rattle.pod_workers.proofs.{Ends.StepsLeft.step_takes, InOrder.Appended.own-more}
use Rattle.pod_workers.proofs.book.Book.finish.Goals as goal

pub loop-self-init : goal.loop-self-init
loop-self-init g c = record {
  extends = extends_refl _;
  own = appends-none (IsEntryBy c.args.number) c.args.self.now.history;
  order = λ earlier order. order;
}

pub loop-self-preserved : goal.loop-self-preserved
loop-self-preserved g c =
    let ready = rw c.loop-self-test.true at c.ready.ensures in
    record {
      extends =
          extends_trans _ _ _ c.loop-self.invariant.extends
          (step_extends c.step.result c.loop-self.self c.step.new.self c.args.number ready
          (c.step.ensures.ok, c.step.ensures.err));
      own =
          own-more c.step.result c.args.self.now c.loop-self.self c.step.new.self c.args.number
          c.loop-self.invariant.own ready (c.step.ensures.ok, c.step.ensures.err);
      order = λ earlier order.
          order-more c.step.result c.args.self.now c.loop-self.self c.step.new.self c.args.number ready
          (c.step.ensures.ok, c.step.ensures.err) c.is_legal.ensures c.loop-self.invariant.extends
          (c.loop-self.invariant.order earlier order) earlier;
    }

pub loop-self-smaller : goal.loop-self-smaller
loop-self-smaller g c =
    step_takes c.step.result c.loop-self.self c.step.new.self c.args.number c.is_legal.ensures
    (rw c.loop-self-test.true at c.ready.ensures) (c.step.ensures.ok, c.step.ensures.err)

pub returns-clause-over : goal.returns-clause-over
returns-clause-over g c = rw c.loop-self-test.false at c.ready.ensures
