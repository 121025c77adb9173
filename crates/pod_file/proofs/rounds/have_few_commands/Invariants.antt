use Rattle.std.proofs.Common.{◌≡◌, length, drop, nat_le}
use Rattle.pod_file.specs.Rounds.{in_file_order, file_limit}
use Rattle.pod_file.proofs.rounds.have_few_commands.Given as goal

-- what is left decides
abbrev pub invariant-loop-commands : goal.invariant-loop-commands
invariant-loop-commands l =
    nat_le (length (in_file_order (drop l.commands-index l.rounds))) l.left
    ≡ nat_le (length (in_file_order l.rounds)) file_limit
