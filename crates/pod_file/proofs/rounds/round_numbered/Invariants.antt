use Rattle.std.proofs.Common.{◌≡◌, ◌+◌, ◌++◌, take, drop}
use Rattle.pod_file.specs.Rounds.{round_numbered}
use Rattle.pod_file.proofs.rounds.round_numbered.Given as goal

-- the commands so far have their numbers, and those that are left follow
abbrev pub invariant-loop-command : goal.invariant-loop-command
invariant-loop-command l =
    (l.next ≡ l.first + l.command-index)
    × (take l.command-index l.command-items ++ round_numbered l.next (drop l.command-index l.command-items)
    ≡ round_numbered l.first l.initial.command-items)
