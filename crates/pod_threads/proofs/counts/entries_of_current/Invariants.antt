use Rattle.std.proofs.Common.{◌≤◌, length}
use Rattle.pod_threads.proofs.Recent.{older_entries}
use Rattle.pod_threads.proofs.counts.entries_of_current.Given as goal

abbrev pub invariant-loop-before : goal.invariant-loop-before
invariant-loop-before g l = record {
  low : older_entries l.book ≤ l.before;
  high : l.before ≤ length l.book.history;
}

abbrev pub decreases-loop-before : goal.decreases-loop-before
decreases-loop-before g l = l.before
