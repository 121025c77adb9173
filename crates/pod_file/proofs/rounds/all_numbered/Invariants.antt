use Rattle.std.proofs.Common.{◌≡◌, ◌+◌, ◌≤◌, ◌++◌, length, take, drop}
use Rattle.pod_file.specs.Rounds.{in_file_order, all_numbered, file_limit}
use Rattle.pod_file.proofs.rounds.all_numbered.Given as goal

-- the rounds so far have their numbers, those that are left follow, and there are few of them
abbrev pub invariant-loop-commands : goal.invariant-loop-commands
invariant-loop-commands l =
    (l.next + length (in_file_order (drop l.commands-index l.commands-items)) ≤ file_limit + 1)
    × (take l.commands-index l.commands-items ++ all_numbered l.next (drop l.commands-index l.commands-items)
    ≡ all_numbered 1 l.initial.commands-items)
