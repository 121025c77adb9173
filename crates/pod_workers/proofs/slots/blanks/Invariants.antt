use Rattle.pod_workers.proofs.Names.{◌≡◌, None, replicate}
use Rattle.pod_workers.proofs.slots.blanks.Given as goal

abbrev pub invariant-loop-made : goal.invariant-loop-made
invariant-loop-made g l = l.blanks.items ≡ replicate l._made None
