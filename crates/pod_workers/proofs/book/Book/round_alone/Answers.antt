use Rattle.pod_workers.proofs.Books.RoundDone.{below-earlier, below-more, extends_refl, extends_trans, none-below}
use Rattle.pod_workers.proofs.Books.RoundDone.{round-is-over, rounds-from, still-left, turned-in-order}
use Rattle.pod_workers.proofs.InOrder.Appended.{below-none, below-own, turned-appends}
use Rattle.pod_workers.proofs.book.Book.round_alone.Goals as goal

pub loop-number-init : goal.loop-number-init
loop-number-init g c = record {
  extends = extends_refl _;
  below = none-below _ _ c.numbers-first.result.1 c.numbers-first.ensures;
  appends = below-none c.args.self.now c.numbers-first.result.0;
  order = λ order. order;
}

pub loop-number-preserved : goal.loop-number-preserved
loop-number-preserved g c = record {
  extends = extends_trans _ _ _ c.loop-number.invariant.extends c.finish.ensures.extends;
  below =
      below-more _ _ _ c.finish.ensures.extends c.is_legal.ensures c.loop-number.invariant.below c.finish.ensures.over;
  appends =
      below-own c.args.self.now c.loop-number.self c.finish.new.self c.loop-number.number
      c.loop-number.invariant.appends c.finish.ensures.own;
  order = λ order.
      c.finish.ensures.order
      (λ n is. below-earlier c.loop-number.self c.loop-number.number n c.loop-number.invariant.below is)
      (c.loop-number.invariant.order order);
}

pub next_round-requires : goal.next_round-requires
next_round-requires g c = record {
  left = still-left _ _ c.loop-number.invariant.extends c.requires;
  over =
      round-is-over _ _ _ _ c.loop-number.number c.numbers-first.ensures c.loop-number.invariant.extends
      c.loop-number-test.false c.loop-number.invariant.below;
}

pub returns-clause-rounds : goal.returns-clause-rounds
returns-clause-rounds g c =
    rounds-from _ _ _ c.is_legal-2.ensures c.loop-number.invariant.extends
    (round-is-over _ _ _ _ c.loop-number.number c.numbers-first.ensures c.loop-number.invariant.extends
    c.loop-number-test.false c.loop-number.invariant.below)
    c.next_round.ensures

pub returns-clause-appends : goal.returns-clause-appends
returns-clause-appends g c =
    turned-appends c.args.self.now c.loop-number.self c.next_round.new.self c.loop-number.number
    c.loop-number.invariant.appends c.next_round.ensures

pub returns-clause-order : goal.returns-clause-order
returns-clause-order g c = λ order. turned-in-order _ _ (c.loop-number.invariant.order order) c.next_round.ensures
