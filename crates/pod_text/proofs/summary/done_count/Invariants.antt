use Rattle.std.proofs.Common.{◌≡◌, ◌≤◌, take}
use Rattle.std.specs.List.{count_by}
use Rattle.pod_text.specs.Summary.{is_done}
use Rattle.pod_text.proofs.summary.done_count.Given as goal

-- how many of the answers so far are counted
abbrev pub invariant-loop-answer : goal.invariant-loop-answer
invariant-loop-answer l = record {
  few : l.count ≤ l.answer-index;
  counted : l.count ≡ count_by is_done (take l.answer-index l.answers);
}
