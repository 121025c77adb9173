use Rattle.std.proofs.Common.{◌≡◌, true, Ok, sym, ap, ◌∙◌, subst}
use Rattle.pod_file.proofs.PodFacts.{numbered-ok}
use Rattle.pod_file.specs.{Rounds.{are_few, each_alone}, WellFormed.AreWellFormedRounds}
use Rattle.pod_file.proofs.read.pods.Goals as goal

pub of_items-requires : goal.of_items-requires
of_items-requires c =
    let rounds = c.in_ok-rounds.rounds in
    let few : are_few rounds ≡ true = ap are_few (sym c.as_slice.ensures) ∙ c.in_ok-few.ensures.within in
    let alone : each_alone 0 rounds ≡ Ok tt =
    ap (each_alone 0) (sym c.as_slice-2.ensures) ∙ sym c.in_ok-each_alone.ensures in
    subst AreWellFormedRounds (sym c.all_numbered-numbered.ensures)
    (numbered-ok _ rounds c.in_ok-rounds.ensures few alone)
