use Rattle.std.proofs.Common.{◌≡◌, ◌++◌, take}
use Rattle.std.specs.List.{flat_map}
use Rattle.pod_text.specs.Lines.{command_line}
use Rattle.pod_text.proofs.parts.push_round.Given as goal

-- the commands so far have their lines
abbrev pub invariant-loop-command : goal.invariant-loop-command
invariant-loop-command g l =
    l.lines.items ≡ l.initial.lines.items ++ flat_map (command_line l.book) (take l.command-index l.commands)
