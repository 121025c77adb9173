use Rattle.std.proofs.{Common.arith, lemmas.Grind.common_steps}
use Rattle.cni_io.specs.Whole.TakesInTurn.{NoWrite, OneMore}
use Rattle.cni_io.proofs.KnownBytes.{append_known-more, left_is_drop}
use Rattle.cni_io.proofs.whole.write_whole.Goals as goal

pub loop-done-init : goal.loop-done-init
loop-done-init g c = record {
  within = omega arith;
  appended = grind (arith, common_steps);
  taken = NoWrite;
  later = omega arith;
  bounded = λ fits. fits;
}

pub loop-done-preserved : goal.loop-done-preserved
loop-done-preserved g c =
    let left = left_is_drop c.args.bytes.now c.loop-done.done in
    record {
      within = grind (arith, common_steps, c.in-Ok.ensures.bound);
      appended =
          append_known-more _ _ _ c.args.bytes.now c.loop-done.done c.in-Ok.taken c.loop-done.invariant.appended
          (rw left at c.in-Ok.ensures.appended);
      taken =
          OneMore c.loop-done.done c.in-Ok.taken c.loop-done.sink c.write.new.self c.loop-done.invariant.taken
          c.loop-done-test.true (omega arith) (rw left at c.in-Ok.ensures.gives);
      later = omega (arith, c.in-Ok.ensures.cause.later, c.loop-done.invariant.later);
      bounded = λ fits. c.in-Ok.ensures.cause.bounded;
    }
