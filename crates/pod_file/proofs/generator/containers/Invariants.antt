use Rattle.std.proofs.Common.{◌≡◌, map}
use Rattle.std.specs.List.{range_with_len}
use Rattle.pod_file.specs.Generator.{container_of}
use Rattle.pod_file.proofs.generator.containers.Given as goal

-- the containers so far
abbrev pub invariant-loop-before : goal.invariant-loop-before
invariant-loop-before l = l.containers.items ≡ map container_of (range_with_len 1 l.before)
