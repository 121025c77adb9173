use Rattle.gc_sweep.proofs.Leaves.{faults_named}
use Rattle.gc_sweep.proofs.laws.every_fault_is_named.Goals as goal

pub returns : goal.returns
returns c = faults_named
