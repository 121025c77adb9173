use Rattle.std.proofs.Common.{◌≡◌, map, take}
use Rattle.kernel_types.specs.Terms.{outside_namespace}
use Rattle.kernel_types.proofs.opening.outside_namespaces.Given as goal

-- the namespaces so far
abbrev pub invariant-loop-name : goal.invariant-loop-name
invariant-loop-name l = l.namespaces ≡ map outside_namespace (take l.name-index l.names)
