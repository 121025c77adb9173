use Rattle.std.proofs.Common.{◌≡◌, ◌+◌, ◌++◌, drop}
use Rattle.pod_text.specs.Fates.{fates_from}
use Rattle.pod_text.proofs.fates.push_each_fate.Given as goal

-- the lines so far, with those of what is left, are all lines
abbrev pub invariant-loop-place : goal.invariant-loop-place
invariant-loop-place l =
    l.lines.items ++ fates_from l.place l.rules (drop l.place l.packets)
    ≡ l.initial.lines.items ++ fates_from 0 l.rules l.packets
