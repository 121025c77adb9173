use Rattle.std.proofs.Common.{◌≡◌, ◌++◌, take}
use Rattle.std.specs.List.{flat_map}
use Rattle.pod_text.specs.Requests.{requests_of}
use Rattle.pod_text.proofs.requests.push_round.Given as goal

-- the commands so far have their lines
abbrev pub invariant-loop-command : goal.invariant-loop-command
invariant-loop-command g l =
    l.lines.items ≡ l.initial.lines.items ++ flat_map (requests_of l.raws l.book) (take l.command-index l.commands)
