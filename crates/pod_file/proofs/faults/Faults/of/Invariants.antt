use Rattle.std.proofs.Common.{take}
use Rattle.pod_file.proofs.FaultFacts.{AreBefore}
use Rattle.pod_file.proofs.faults.Faults.of.Given as goal

-- the faults so far
abbrev pub invariant-loop-number : goal.invariant-loop-number
invariant-loop-number l = AreBefore l.before.keys (take l.number-index l.numbers)
