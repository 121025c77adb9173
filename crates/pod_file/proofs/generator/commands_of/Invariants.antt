use Rattle.std.proofs.Common.{◌≡◌, map, take}
use Rattle.pod_file.specs.Generator.{command_of}
use Rattle.pod_file.proofs.generator.commands_of.Given as goal

-- the commands so far
abbrev pub invariant-loop-container : goal.invariant-loop-container
invariant-loop-container l = l.commands.items ≡ map (command_of l.verb) (take l.container-index l.containers)
