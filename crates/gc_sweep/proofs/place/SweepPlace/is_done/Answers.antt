use Rattle.gc_sweep.proofs.Names.{arith}
use Rattle.gc_sweep.proofs.Places.{not_done}
use Rattle.gc_sweep.proofs.place.SweepPlace.is_done.Goals as goal

pub returns-else-not-has_owner : goal.returns-else-not-has_owner
returns-else-not-has_owner c = λ ks within.
    let no = c.if-not-has_owner.false in
    not_done ks c.args.self.now c.has_owner.result within c.has_owner.ensures (grind (arith, no))
