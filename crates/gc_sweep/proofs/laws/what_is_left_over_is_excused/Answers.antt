use Rattle.gc_sweep.proofs.Leaves.{over_excused}
use Rattle.gc_sweep.proofs.laws.what_is_left_over_is_excused.Goals as goal

pub returns : goal.returns
returns c = over_excused
