use Rattle.std.proofs.Common.{◌≡◌, ◌+◌, ◌++◌, drop}
use Rattle.pod_text.specs.Lines.{trace_from}
use Rattle.pod_text.proofs.parts.push_entries.Given as goal

-- the lines so far, with those of what is left, are all lines
abbrev pub invariant-loop-place : goal.invariant-loop-place
invariant-loop-place l =
    l.lines.items ++ trace_from (l.place + 1) (drop l.place l.history) ≡ l.initial.lines.items ++ trace_from 1 l.history
