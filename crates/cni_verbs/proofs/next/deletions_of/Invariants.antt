use Rattle.std.proofs.Common.{◌≡◌, map, take}
use Rattle.cni_errors.specs.CommandFields.{att_of}
use Rattle.plugin_chain.specs.Wanted.{deletion}
use Rattle.cni_verbs.proofs.next.deletions_of.Given as goal

-- a deletion of each kind so far
abbrev pub invariant-loop-kind : goal.invariant-loop-kind
invariant-loop-kind l = l.calls.items ≡ map (deletion (att_of l.command)) (take l.kind-index l.kind-items)
