use Rattle.std.proofs.Common.{ap, ◌∙◌, length, arith}
use Rattle.pod_file.proofs.GeneratorFacts.{length-containers}
use Rattle.pod_file.proofs.generator.generate.Goals as goal

pub pods_for-requires-clause-few : goal.pods_for-requires-clause-few
pods_for-requires-clause-few c =
    let count = ap length (c.as_slice.ensures ∙ c.in_ok-containers.ensures) ∙ length-containers c.args.count in
    omega (arith, count, c.requires.few)
