use Rattle.std.proofs.Common.{◌≤◌, ◌+◌, [], length, ap, refl, arith}
use Rattle.cni_verbs.proofs.PhaseSteps.{calls_over}
use Rattle.cni_verbs.proofs.advance.pass_before.Goals as goal

pub returns-else-passed-count : goal.returns-else-passed-count
returns-else-passed-count c = λ list command made sets.
    let over : length c.args.calls.now ≤ c.args.passed.now + 1 = omega (arith, ap length c.as_slice-count.ensures) in
    calls_over list command made (c.args.passed.now + 1) c.args.calls.now c.leasing.result over
    (c.leasing.ensures list command made [] sets refl)
