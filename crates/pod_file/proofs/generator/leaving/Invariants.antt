use Rattle.std.proofs.Common.{◌≡◌, take}
use Rattle.pod_file.specs.Generator.{leaving}
use Rattle.pod_file.proofs.generator.leaving.Given as goal

-- the containers that were chosen so far
abbrev pub invariant-loop-container : goal.invariant-loop-container
invariant-loop-container l = l.chosen ≡ leaving l.divisor l.rest (take l.container-index l.containers)
