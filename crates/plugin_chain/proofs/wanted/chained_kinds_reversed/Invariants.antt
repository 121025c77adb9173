use Rattle.std.proofs.Common.{◌≡◌, drop}
use Rattle.plugin_chain.specs.Wanted.{chained_kinds_reversed}
use Rattle.plugin_chain.proofs.wanted.chained_kinds_reversed.Given as goal

-- the kinds of the plugins that were passed, which are the last ones
abbrev pub invariant-loop-place : goal.invariant-loop-place
invariant-loop-place l = l.kinds.items ≡ chained_kinds_reversed (drop l.place l.chained)
