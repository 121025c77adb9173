use Rattle.std.proofs.Common.{◌≡◌, arith, true, false, sym, ◌∙◌}
use Rattle.cni_io.specs.FailingCalls.{fails_next}
use Rattle.cni_io.proofs.Counts.{failures-fails, failures-passes, CountsFailure-fails, CountsFailure-passes}
use Rattle.cni_io.proofs.mem_files.MemFilesFiles.read.Goals as goal

pub overflow_add-self : goal.overflow_add-self
overflow_add-self c =
    let fails : fails_next c.self.inside.reads ≡ true = sym c.if-next_fails.ensures.fails in
    omega (arith, (failures-fails c.self.inside.reads fails).1, c.self.invariant.0)

pub invariant_of-self : goal.invariant_of-self
invariant_of-self c =
    let fails : fails_next c.self.inside.reads ≡ true = sym c.if-next_fails.ensures.fails in (
      rw c.next_fails.ensures.counts (omega (arith, (failures-fails c.self.inside.reads fails).0, c.self.invariant.0)),
      c.self.invariant.1,
    )

pub returns-then-next_fails-clause-cause : goal.returns-then-next_fails-clause-cause
returns-then-next_fails-clause-cause c =
    let fails : fails_next c.self.inside.reads ≡ true = sym c.if-next_fails.ensures.fails in
    rw (← c.self.view_is, c.next_fails.ensures.counts) (CountsFailure-fails c.self.inside.reads fails)

pub invariant_of-self-2 : goal.invariant_of-self-2
invariant_of-self-2 c =
    let passes : fails_next c.self.inside.reads ≡ false = sym c.if-next_fails.ensures.fails in (
      rw c.next_fails.ensures.counts (c.self.invariant.0 ∙ sym (failures-passes c.self.inside.reads passes)),
      c.self.invariant.1,
    )

pub returns-clause-cause : goal.returns-clause-cause
returns-clause-cause c =
    let passes : fails_next c.self.inside.reads ≡ false = sym c.if-next_fails.ensures.fails in
    rw (← c.self.view_is, c.next_fails.ensures.counts) (CountsFailure-passes c.self.inside.reads passes
    (omega (arith, c.self.invariant.0, c.ranges)) c.copy_within.ensures.not_failed)
