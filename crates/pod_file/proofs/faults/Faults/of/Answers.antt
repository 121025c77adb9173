use Rattle.std.proofs.{Common.{sym, subst}, lemmas.List.take_more}
use Rattle.pod_file.proofs.FaultFacts.{AreBefore, before-more, before-zero}
use Rattle.pod_file.proofs.faults.Faults.of.Goals.{then-number-gt0+in_ok-insert, else-number-gt0}
use Rattle.pod_file.proofs.faults.Faults.of.Goals as goal

pub loop-number-preserved : goal.loop-number-preserved
loop-number-preserved c =
    let read = sym (take_more c.args.numbers.now c.loop-number.number-index 0 c.loop-number-test.true) in
    elim c.if-number-gt0.branch [
      | then-number-gt0+in_ok-insert w ↦
          rw w.before-is
          (subst (AreBefore w.insert.new.self.keys) read
          (before-more c.loop-number.before.keys w.insert.new.self.keys _ _ w.if-number-gt0.true c.loop-number.invariant
          w.in_ok-insert.ensures.updates.0))
      | else-number-gt0 w ↦
          rw w.before-is
          (subst (AreBefore c.loop-number.before.keys) read
          (before-zero c.loop-number.before.keys _ _ w.if-number-gt0.false c.loop-number.invariant))
    ]
