use Rattle.std.proofs.Common.{◌≡◌, ◌≤◌, length, sum, vec_len, vec_capacity}
use Rattle.pod_threads.proofs.workers.gather.Given as goal

abbrev pub invariant-loop-worker : goal.invariant-loop-worker
invariant-loop-worker g l =
    record {
      parts : l.all.parts ≡ length l.yielded;
      amount : l.all.amount ≡ sum l.counts.items;
      made : vec_len l.counts ≡ length l.yielded;
      room : length l.fn.workers.items ≤ vec_capacity l.counts;
    }
