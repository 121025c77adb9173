use Rattle.std.proofs.Common.{◌≡◌}
use Rattle.cni_verbs.proofs.prepare.shared_calls.Given as goal

-- the calls so far
abbrev pub invariant-loop-call : goal.invariant-loop-call
invariant-loop-call l = l.shared.items ≡ l.yielded
