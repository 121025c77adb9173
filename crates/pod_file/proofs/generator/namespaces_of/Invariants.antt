use Rattle.std.proofs.Common.{◌≡◌, take}
use Rattle.pod_file.specs.Generator.{namespaces_of}
use Rattle.pod_file.proofs.generator.namespaces_of.Given as goal

-- the names so far
abbrev pub invariant-loop-container : goal.invariant-loop-container
invariant-loop-container l = l.names.items ≡ namespaces_of (take l.container-index l.containers)
