use Rattle.std.proofs.Common.{◌≡◌, drop}
use Rattle.pod_file.specs.Rounds.{each_alone}
use Rattle.pod_file.proofs.rounds.each_alone.Given as goal

-- what is left decides
abbrev pub invariant-loop-index : goal.invariant-loop-index
invariant-loop-index l = each_alone l.index (drop l.index l.rounds) ≡ each_alone 0 l.rounds
