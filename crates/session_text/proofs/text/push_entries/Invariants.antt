use Rattle.std.proofs.Common.{◌≡◌, ◌+◌, ◌++◌, drop}
use Rattle.std.specs.List.{enumerate_from, flat_map}
use Rattle.session_text.specs.SessionText.{entry_line, numbered}
use Rattle.session_text.proofs.text.push_entries.Given as goal

-- the lines so far, with those of what is left, are all lines
abbrev pub invariant-loop-place : goal.invariant-loop-place
invariant-loop-place l =
    l.lines.items ++ flat_map (λ p. entry_line p.0 p.1) (enumerate_from (l.place + 1) (drop l.place l.history))
    ≡ l.initial.lines.items ++ numbered entry_line l.history
