use Rattle.std.proofs.{Common.{length, nat_le, arith}, lemmas.Bool.{and_parts, Decides.nat_tests}}
use Rattle.net_conf.proofs.SetFacts.{sets_at-ok}
use Rattle.net_conf.specs.Sets.{most_sets}
use Rattle.net_conf.proofs.sets.sets.Goals as goal

pub of_items-requires-clause-few : goal.of_items-requires-clause-few
of_items-requires-clause-few c =
    let sets = c.in_ok-sets.sets in
    let kept = sets_at-ok _ sets c.in_ok-sets.ensures in
    let both = and_parts (nat_le 1 (length sets)) (nat_le (length sets) most_sets) kept.count in
    grind (arith, nat_tests, both.1)

pub of_items-requires-clause-apart : goal.of_items-requires-clause-apart
of_items-requires-clause-apart c =
    let kept = sets_at-ok _ c.in_ok-sets.sets c.in_ok-sets.ensures in
    kept.apart
