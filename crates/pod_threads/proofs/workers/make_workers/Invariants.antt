use Rattle.std.proofs.Common.{◌≡◌, ◌+◌, length}
use Rattle.pod_threads.proofs.workers.make_workers.Given as goal

abbrev pub invariant-loop-made : goal.invariant-loop-made
invariant-loop-made g l = record {
  parts : l.all.parts + l._made ≡ l.n;
  amount : l.all.amount ≡ 0;
  long : length l.workers.items ≡ l._made;
}
