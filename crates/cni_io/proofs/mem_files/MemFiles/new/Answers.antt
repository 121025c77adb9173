use Rattle.std.proofs.Common.{refl}
use Rattle.std.specs.List.{IsDistinct}
use Rattle.cni_io.proofs.mem_files.MemFiles.new.Goals as goal

pub invariant_of-result : goal.invariant_of-result
unfolding IsDistinct
invariant_of-result c = (rw c.new-2.ensures refl, rw c.new.ensures.items tt)
