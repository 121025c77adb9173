use Rattle.gc_sweep.proofs.Leaves.{always_bounded}
use Rattle.gc_sweep.proofs.laws.every_collection_is_bounded.Goals as goal

pub returns : goal.returns
returns c = always_bounded
