use Rattle.std.proofs.Common.{ap, sym, ◌∙◌, subst}
use Rattle.pod_file.proofs.GeneratorFacts.{rounds_for-few, rounds_for-ok}
use Rattle.pod_file.specs.{Rounds.{are_few, all_numbered}, WellFormed.AreWellFormedRounds}
use Rattle.pod_file.proofs.generator.pods_for.Goals as goal

pub all_numbered-numbered-requires : goal.all_numbered-numbered-requires
all_numbered-numbered-requires c =
    ap are_few c.in_ok-rounds.ensures ∙ rounds_for-few c.args.containers.now c.requires.few

pub of_items-requires : goal.of_items-requires
of_items-requires c =
    let numbered = c.all_numbered-numbered.ensures ∙ ap (all_numbered 1) c.in_ok-rounds.ensures in
    subst AreWellFormedRounds (sym numbered) (rounds_for-ok c.args.containers.now c.requires.few)
