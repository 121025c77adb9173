use Rattle.pod_workers.proofs.Names.{take}
use Rattle.pod_workers.specs.{Index.IsIndex, Plans.placed_from}
use Rattle.pod_workers.proofs.index.index_of.Given as goal

abbrev pub invariant-loop-round : goal.invariant-loop-round
invariant-loop-round l = IsIndex l.rounds (placed_from 0 (take l.round l.rounds)) l.places.items
