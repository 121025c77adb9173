use Rattle.session_verbs.proofs.Names.{◌≡◌, take}
use Rattle.session_verbs.proofs.delete.kinds_back.Given as goal

abbrev pub invariant-loop-kind : goal.invariant-loop-kind
invariant-loop-kind l = l.kinds ≡ take l.kind-index l.kind-items
