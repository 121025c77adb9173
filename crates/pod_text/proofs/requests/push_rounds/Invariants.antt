use Rattle.std.proofs.Common.{◌≡◌, ◌++◌, take}
use Rattle.std.specs.List.{flat_map}
use Rattle.pod_text.specs.Requests.{requests_of}
use Rattle.pod_text.proofs.requests.push_rounds.Given as goal

-- the rounds so far have their lines
abbrev pub invariant-loop-commands : goal.invariant-loop-commands
invariant-loop-commands g l =
    l.lines.items
    ≡ l.initial.lines.items ++ flat_map (flat_map (requests_of l.raws l.book)) (take l.commands-index l.rounds)
