use Rattle.std.proofs.Common.{◌≡◌, ◌+◌, ◌++◌, drop}
use Rattle.std.specs.List.{enumerate_from, flat_map}
use Rattle.session_text.specs.SessionText.{numbered, task_line}
use Rattle.session_text.proofs.text.push_each_task.Given as goal

-- the lines so far, with those of what is left, are all lines
abbrev pub invariant-loop-place : goal.invariant-loop-place
invariant-loop-place g l =
    l.lines.items ++ flat_map (λ p. task_line l.session p.0 p.1) (enumerate_from (l.place + 1) (drop l.place l.tasks))
    ≡ l.initial.lines.items ++ numbered (task_line l.session) l.tasks
