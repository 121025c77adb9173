use Rattle.std.proofs.Common.{◌≡◌, drop}
use Rattle.plugin_chain.specs.Wanted.{all_chained_results}
use Rattle.plugin_chain.proofs.wanted.all_chained_results.Given as goal

-- what the plugins that are left make of the result so far
abbrev pub invariant-loop-plugin : goal.invariant-loop-plugin
invariant-loop-plugin l =
    all_chained_results (drop l.plugin-index l.chained) l.prev ≡ all_chained_results l.chained l.initial.prev
