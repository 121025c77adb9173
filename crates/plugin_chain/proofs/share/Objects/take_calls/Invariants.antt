use Rattle.std.proofs.Common.{◌≡◌}
use Rattle.plugin_base.specs.Share.{share_after_calls}
use Rattle.plugin_chain.proofs.share.Objects.take_calls.Given as goal

-- what the calls so far make
abbrev pub invariant-loop-call : goal.invariant-loop-call
invariant-loop-call l = l.self ≡ share_after_calls l.initial.self l.yielded
