use Rattle.gc_sweep.proofs.Names.{arith}
use Rattle.gc_sweep.proofs.Places.{first_kind}
use Rattle.gc_sweep.proofs.place.first_owner_step.Goals as goal

pub returns-else-step-eq0 : goal.returns-else-step-eq0
returns-else-step-eq0 c = first_kind c.args.kinds.now c.args.step c.kind_at.result (omega arith) c.kind_at.ensures
